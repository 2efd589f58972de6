-- What the pass that alone delivers pulses has seen as its turns go on, and that no moment of that is later than one.
use Rattle.std.proofs.Common.{◌≡◌, ℕ, ◌+◌, ◌≤◌, Bool, true, false, Some, List, [], ◌∷◌, ◌++◌, map, drop, length, refl, sym, ap, ◌∙◌, subst, arith, append_assoc, append-nil}
use Rattle.std.specs.Prelude.{nat_lt, Option}
use Rattle.std.proofs.lemmas.Bool.{or_parts, or_from}
use Rattle.std.proofs.lemmas.Bool.Decides.{nat_tests}
use mathlib.Core.List.{map-append}
use Rattle.frame_phases.specs.declared.entry.Callback.{Callback}
use Rattle.frame_phases.specs.declared.entry.FrameEntry.{FrameEntry}
use Rattle.frame_phases.specs.declared.entry.FrameEntry.TheVariants.{Posted, Removed, Begin, Take, Ran}
use Rattle.frame_phases.specs.State.{Frames, ran}
use Rattle.choreographer.specs.declared.state.StampedFrames.{StampedFrames}
use Rattle.choreographer.specs.declared.frame.Framed.{Framed}
use Rattle.choreographer.specs.declared.frame.Framed.TheVariants.{Done, Elsewhere, Unscheduled, Backwards, NoMemory}
use Rattle.choreographer.specs.Client.{Run}
use Rattle.choreographer.specs.Frame.{Batch, IsQuiet, GrowsQuietly}
use Rattle.choreographer.specs.Turn.{is_moment_later, has_later, made_entries, all_by}
use Rattle.choreographer.specs.Known.{Pass, IfAlone, IsFrameTurn, SeesQuietly}
use Rattle.choreographer.specs.declared.host.Sending.{Sending}
use Rattle.choreographer.specs.declared.hosted.Pulse.{Pulse}
use Rattle.choreographer.specs.Steps.{known_by}
use Rattle.choreographer.specs.Calls.{PulsedBy, DueBy}
use Rattle.choreographer.specs.Done.{AreBatches, TakesPhase, TakesEach, FramedBy, UnlessNoMemory}
use Rattle.choreographer.proofs.Counting.{drop_prefix}
use Rattle.choreographer.proofs.Dealt.{all_by-elements}
use Rattle.choreographer.proofs.Latest.{turn_same}
use Rattle.choreographer.proofs.Recorded.{pulse_leaves, due_leaves}

-- ---- what a turn comes to see

-- what the pass had seen, postings and removals of others, and what it recorded itself
pub turn_sees : (before after : Pass) (x y : StampedFrames) (more : List FrameEntry) → IsFrameTurn before after x y → x.frames.entries ++ more ≡ y.frames.entries
    → IfAlone before ((others : List FrameEntry) × (before.view.seen ++ (others ++ more) ≡ after.view.seen) × IsQuiet others)
turn_sees before after x y more turn is = λ c e named.
    let h = turn.hears in
    let f : ℕ × FrameEntry → FrameEntry = λ d. d.1 in
    let new : List FrameEntry = drop (length x.frames.entries) y.frames.entries in
    let early = map-append f before.view.heard h.others ∙ ap (λ l. l ++ made_entries h.others) h.knew.seen in
    let own = all_by-elements before.number new ∙ drop_prefix x.frames.entries more y.frames.entries is in (
      made_entries h.others,
      sym (sym h.knows.seen ∙ (ap made_entries h.heard ∙ (map-append f (before.view.heard ++ h.others) (all_by before.number new)
          ∙ ((λ i. early i ++ own i) ∙ append_assoc before.view.seen (made_entries h.others) more)))),
      h.quiet c e named,
    )

-- a turn that recorded nothing
pub turn_quiet : (before after : Pass) (x y : StampedFrames) → IsFrameTurn before after x y → y.frames.entries ≡ x.frames.entries → SeesQuietly before after
turn_quiet before after x y turn same = λ c e named.
    let s = turn_sees before after x y [] turn (append-nil x.frames.entries ∙ sym same) c e named in
    (s.0, ap (λ l. before.view.seen ++ l) (sym (append-nil s.0)) ∙ s.1, s.2)

pub pulse_quiet : (before after : Pass) (is_moment : ℕ → Bool) (sends sends' : List Sending) (result : Option Pulse) → PulsedBy before after is_moment sends sends' result → SeesQuietly before after
pulse_quiet before after is_moment sends sends' result t = turn_quiet before after t.0 t.1 t.3 (pulse_leaves t.0 t.1 t.2 sends sends' result t.5)

pub due_quiet : (before after : Pass) (is_moment : ℕ → Bool) (phase : ℕ) (result : Bool) → DueBy before after is_moment phase result → SeesQuietly before after
due_quiet before after is_moment phase result t =
    let d = t.2 in turn_quiet before after d.0 d.1 d.2 (ap (λ (z : StampedFrames). z.frames.entries) d.4 ∙ due_leaves d.0 (known_by d.0 t.0) result)

-- ---- no moment is later

later_both : (t : ℕ) (xs ys : List FrameEntry) → has_later t xs ≡ false → has_later t ys ≡ false → has_later t (xs ++ ys) ≡ false
later_both t [] ys none more = more
later_both t (x ∷ xs) ys none more =
    let p = or_parts (is_moment_later t x) (has_later t xs) none in or_from (is_moment_later t x) (has_later t (xs ++ ys)) p.0 (later_both t xs ys p.1 more)

later_quiet : (t : ℕ) (es : List FrameEntry) → IsQuiet es → has_later t es ≡ false
later_quiet t [] q = refl
later_quiet t (Posted c ∷ es) q = later_quiet t es q
later_quiet t (Removed p i o n ∷ es) q = later_quiet t es q
later_quiet t (Begin v s k ∷ es) q = absurd q
later_quiet t (Take p n k ∷ es) q = absurd q
later_quiet t (Ran n ∷ es) q = absurd q

later_ran : (t : ℕ) (cs : List Callback) → has_later t (map ran cs) ≡ false
later_ran t [] = refl
later_ran t (c ∷ cs) = later_ran t cs

not_later : (t n : ℕ) → n ≡ t → nat_lt t n ≡ false
not_later t n same = grind (arith, nat_tests)

pub later_quietly : (t : ℕ) (seen whole : List FrameEntry) → GrowsQuietly seen whole → has_later t seen ≡ false → has_later t whole ≡ false
later_quietly t seen whole g none = subst (λ (l : List FrameEntry). has_later t l ≡ false) g.1 (later_both t seen g.0 none (later_quiet t g.0 g.2))

-- nor is one later than a later one
later_yet : (t u : ℕ) (e : FrameEntry) → t ≤ u → is_moment_later t e ≡ false → is_moment_later u e ≡ false
later_yet t u (Posted c) le none = refl
later_yet t u (Removed p i o n) le none = refl
later_yet t u (Begin v s k) le none = grind (arith, nat_tests)
later_yet t u (Take p n k) le none = grind (arith, nat_tests)
later_yet t u (Ran n) le none = refl

pub later_then : (t u : ℕ) (es : List FrameEntry) → t ≤ u → has_later t es ≡ false → has_later u es ≡ false
later_then t u [] le none = refl
later_then t u (e ∷ es) le none =
    let p = or_parts (is_moment_later t e) (has_later t es) none in or_from (is_moment_later u e) (has_later u es) (later_yet t u e le p.0) (later_then t u es le p.1)

-- the pass has seen no later moment, if so it was before
abbrev pub StaysUpTo : ℕ → Pass → Pass → Type 0
StaysUpTo t before after = IfAlone before (has_later t before.view.seen ≡ false → has_later t after.view.seen ≡ false)

pub turn_up_to : (t : ℕ) (before after : Pass) (x y : StampedFrames) (more : List FrameEntry) → IsFrameTurn before after x y → x.frames.entries ++ more ≡ y.frames.entries → has_later t more ≡ false → StaysUpTo t before after
turn_up_to t before after x y more turn is none = λ c e named was.
    let s = turn_sees before after x y more turn is c e named in
    subst (λ (l : List FrameEntry). has_later t l ≡ false) s.1 (later_both t before.view.seen (s.0 ++ more) was (later_both t s.0 more (later_quiet t s.0 s.2) none))

same_up_to : (t : ℕ) (before after : Pass) (x y : StampedFrames) → IsFrameTurn before after x y → y.frames.entries ≡ x.frames.entries → StaysUpTo t before after
same_up_to t before after x y turn same = turn_up_to t before after x y [] turn (append-nil x.frames.entries ∙ sym same) refl

-- ---- a frame

-- a host with one moment
module _ (t : ℕ) (is_moment : ℕ → Bool) (only : (n : ℕ) → is_moment n ≡ true → n ≡ t) where
  take_up_to : (before after : Pass) (phase : ℕ) (b : Batch) → is_moment b.now ≡ true → TakesPhase phase b before after → StaysUpTo t before after
  take_up_to before after phase b moment took =
      turn_up_to t before after took.0 took.1 (Take phase b.now b.time ∷ map ran b.callbacks) took.2 (sym (ap (λ (f : Frames). f.entries) took.3.3))
      (or_from (nat_lt t b.now) (has_later t (map ran b.callbacks)) (not_later t b.now (only b.now moment)) (later_ran t b.callbacks))

  each_up_to : (phase : ℕ) (bs : List Batch) (before after : Pass) → AreBatches is_moment phase bs → TakesEach phase bs before after → StaysUpTo t before after
  each_up_to phase [] before after are same = λ c e named was. subst (λ (p : Pass). has_later t p.view.seen ≡ false) (sym same) was
  each_up_to phase (b ∷ bs) before after are (p, took, rest) = λ c e named was.
      let same = turn_same before p took.0 took.1 took.2 in
      each_up_to (phase + 1) bs p after are.1 rest c (same.2 ∙ e) (named ∙ ap Some (sym same.1)) (take_up_to before p phase b are.0.0 took c e named was)

  -- a frame that ended, or that did not begin
  pub frame_up_to : (phases : ℕ) (before after : Pass) (told told' : Option (List Run)) (r : Framed) → FramedBy phases before after is_moment told told' r → UnlessNoMemory r (StaysUpTo t before after)
  frame_up_to phases before after told told' Done (start, time, middle, moment, turn, done) = λ c e named was.
      let same = turn_same before middle turn.0 turn.1 turn.2 in
      let begun = turn_up_to t before middle turn.0 turn.1 (Begin turn.0.stamp start time ∷ []) turn.2 (sym (ap (λ (f : Frames). f.entries) turn.3.4))
      (or_from (nat_lt t start) false (not_later t start (only start moment)) refl) in
      each_up_to 0 done.0 middle after done.3 done.7 c (same.2 ∙ e) (named ∙ ap Some (sym same.1)) (begun c e named was)
  frame_up_to phases before after told told' (Elsewhere next) (start, moment, turn, same) = same_up_to t before after turn.0 turn.1 turn.2 (ap (λ (f : Frames). f.entries) turn.3.1)
  frame_up_to phases before after told told' Unscheduled (start, moment, turn, same) = same_up_to t before after turn.0 turn.1 turn.2 (ap (λ (f : Frames). f.entries) turn.3.2)
  frame_up_to phases before after told told' (Backwards last) (start, moment, turn, same, later) = same_up_to t before after turn.0 turn.1 turn.2 (ap (λ (f : Frames). f.entries) turn.3.4)
  frame_up_to phases before after told told' NoMemory framed = tt

  -- where no moment is later none would go back
  pub never_back : (phases last : ℕ) (before after : Pass) (told told' : Option (List Run)) → FramedBy phases before after is_moment told told' (Backwards last)
      → IfAlone before (has_later t before.view.seen ≡ false → ⊥)
  never_back phases last before after told told' framed = λ c e named was.
      let none = frame_up_to phases before after told told' (Backwards last) framed c e named was in
      let late : has_later t after.view.seen ≡ true = subst (λ (n : ℕ). has_later n after.view.seen ≡ true) (only framed.0 framed.1) framed.4 in
      let wrong : false ≡ true = sym none ∙ late in
      absurd (cc (wrong))
