-- A call that was one turn.
use Rattle.std.proofs.Common.{◌≡◌, ℕ, ◌+◌, ◌≤◌, Bool, true, false, Option, List, [], ◌∷◌, ◌++◌, cond, eqb, eq-eqb, map, drop, reverse, Some, None, refl, sym, ap, ◌∙◌, subst, arith, length, length-append}
use Rattle.std.specs.Prelude.{◌-◌, nat_lt, Result, Ok, Err, IfOk}
use mathlib.Core.List.{IsPrefix}
use Rattle.loop_model.specs.declared.memory.NoMemory.{NoMemory}
use Rattle.frame_phases.specs.declared.entry.FrameEntry.{FrameEntry}
use Rattle.frame_phases.specs.declared.entry.Beginning.{Beginning}
use Rattle.frame_phases.specs.declared.entry.Beginning.TheVariants as begin
use Rattle.frame_phases.specs.Frames.{next_phase}
use Rattle.frame_phases.specs.State.{Frames, BeginsBy, Seals}
use Rattle.choreographer.specs.declared.state.StampedFrames.{StampedFrames}
use Rattle.choreographer.specs.declared.view.Constants.{Constants}
use Rattle.choreographer.specs.declared.view.Progress.{Progress}
use Rattle.choreographer.specs.declared.view.View.{View}
use Rattle.choreographer.specs.Frame.{begin_place, progress, progress_of, GrowsQuietly}
use Rattle.choreographer.specs.Turn.{HasConstants, count_of, holds, last_of, measured, sealed_of, asked_of, delivers_by, AsksIfScheduled, taking, giving}
use Rattle.choreographer.specs.Plays.{Sat, FoundBy, FoundPulse, FoundHeard, MayGive, MaySeal, MayPulse}
use Rattle.choreographer.specs.Steps.{HasSameConstants, StepsBy}
use Rattle.choreographer.specs.Known.{Pass, HasOwn, HearsTurn, IsFrameTurn}
use Rattle.loop_model.proofs.Prefixes.{prefix_self}
use Rattle.choreographer.proofs.Heard.{entries_given, heard_given, numbers_given, turn_hears}
use Rattle.choreographer.proofs.Quiet.{grows_self}
use Rattle.choreographer.proofs.Waits.{KeepsWait}
use Rattle.std.specs.Option.{option_map_or}

pub same_key : (key c : Constants) (o : Option Constants) → o ≡ Some key → o ≡ Some c → key ≡ c
same_key key c o e f = let both : Some key ≡ Some c = sym e ∙ f in cc (both)

-- the pass that alone delivers pulses is among its own
delivers : (v : View) (key : Constants) (n : ℕ) → v.constants ≡ Some key → key.pulses ≡ Some n → v.passes ≡ n ∷ [] → delivers_by v.constants v.passes ≡ true
delivers v key n own_key named only =
    let here : cond {A = ℕ} (eqb n n) 1 0 ≡ 1 = ap (λ b. cond {A = ℕ} b 1 0) (eq-eqb n n refl) in
    let one : count_of n (n ∷ []) ≡ 1 = omega (arith, here) in
    (λ i. delivers_by (own_key i) (only i)) ∙ (ap (λ (o : Option ℕ). option_map_or (λ m. nat_lt 0 (count_of m (n ∷ []))) o false) named ∙ ap (nat_lt 0) one)

-- a pass that took the turn, found x, and gave the turn back with y
one_turn : (key : Constants) (before after : Pass) (x y : StampedFrames) (made : List (ℕ × FrameEntry)) → after.table ≡ before.table → after.number ≡ before.number
    → after.view ≡ giving (taking before.view x made) y → before.view.constants ≡ Some key → HasConstants key x → HasConstants key y → FoundBy before.view x
    → IsPrefix x.frames.entries y.frames.entries → FoundPulse key before.view x → before.view.passes ≡ before.number ∷ [] → HearsTurn before after x y → IsFrameTurn before after x y
one_turn key before after x y made table number is own_key of_x of_y found grows latest only hears = record {
  table = table;
  number = number;
  constants = ap (λ (v : View). v.constants) is;
  turns = ap (λ (v : View). v.turns) is;
  found = ap (λ (v : View). v.found) is;
  left = ap (λ (v : View). v.left) is;
  of_constants = λ c e. let same = same_key key c before.view.constants own_key e in (subst (λ k. HasConstants k x) same of_x, subst (λ k. HasConstants k y) same of_y);
  begins = found;
  grows = grows;
  seen = ap (λ (v : View). v.seen) is;
  frame = ap (λ (v : View). v.frame) is;
  own = ap (λ (v : View). v.own) is;
  handed = ap (λ (v : View). v.handed) is;
  stamp = λ c e named.
      let same = (latest before.number (ap (λ (k : Constants). k.pulses) (same_key key c before.view.constants own_key e) ∙ named) only).0 in
      (same, ap (λ (v : View). v.stamp) is ∙ omega (arith, same));
  awaits = λ c e named.
      let same = (latest before.number (ap (λ (k : Constants). k.pulses) (same_key key c before.view.constants own_key e) ∙ named) only).1 in
      (same, ap (λ (v : View). v.awaits) is ∙ omega (arith, same));
  asks = λ c e named.
      let mine = ap (λ (k : Constants). k.pulses) (same_key key c before.view.constants own_key e) ∙ named in
      ((latest before.number mine only).2, ap (λ (v : View). v.asks) is ∙ ap (λ (b : Bool). cond b (asked_of y) 0) (delivers before.view key before.number own_key mine only));
  hears = hears;
}

-- so it is by the two steps of its seat: s is what it knew as it took the turn, and t once it gave it back
pub turned : (key : Constants) (inside now after : Pass) (x y : StampedFrames) (s t : Sat) → inside ≡ now → now.view.constants ≡ Some key → inside.view.passes ≡ inside.number ∷ [] → HasOwn inside.view
    → s ≡ (taking inside.view x s.0.heard, (0, None) ∷ []) → HasConstants key x × FoundBy inside.view x → FoundHeard inside.view x s.0.heard → FoundPulse key inside.view x → HasConstants key y
    → IsPrefix x.frames.entries y.frames.entries → t ≡ (giving s.0 y, []) × HasOwn t.0 → after ≡ record { table = inside.table; number = inside.number; view = t.0 } → IsFrameTurn now after x y
turned key inside now after x y s t same own_key one own took found hears latest of_y grows gave is =
    let made : List (ℕ × FrameEntry) = s.0.heard in
    let b : Pass = record { table = inside.table; number = inside.number; view = t.0 } in
    let view : t.0 ≡ giving (taking inside.view x made) y = ap (λ (z : Sat). z.0) gave.0 ∙ ap (λ (z : Sat). giving z.0 y) took in
    subst (λ (z : Pass × Pass). IsFrameTurn z.0 z.1 x y) (λ i. (same i, sym is i))
    (one_turn key inside b x y made refl refl view (ap (λ (p : Pass). p.view.constants) same ∙ own_key) found.0 of_y found.1 grows latest one (turn_hears inside b x y made one own hears refl view gave.1))

-- a seat that gives back what it may still has its own
pub own_given : (key : Constants) (v : View) (x : StampedFrames) → v.constants ≡ Some key → HasOwn v → IsPrefix v.seen x.frames.entries → MaySeal key v x → HasOwn (giving v x)
own_given key v x own_key own more seals = record {
  part = ap (map (λ part. part ++ drop (length v.seen) x.frames.entries)) own.part;
  heard = heard_given v x own;
  seen = entries_given v x own.seen more;
  below = own.below;
  numbers = numbers_given v x own;
  handed = λ c e no_last.
      let same : key ≡ c = same_key key c v.constants own_key e in
      let none = own.handed c e no_last in
      let no_more = subst (λ (k : Constants). holds (last_of k) v ≡ 0 → sealed_of x ≡ measured sealed_of v.found) same seals.1 no_last in
      omega (arith, none, no_more);
}

-- where nothing was handed out, the state may be given back
pub keeps_handed : (key : Constants) (v : View) (x y : StampedFrames) (made : List (ℕ × FrameEntry)) → HasSameConstants x y → MaySeal key (taking v x made) y
keeps_handed key v x y made same = let long = ap length same.3 in (omega (arith, long), λ _. long)

-- where the stamp stays, whether a frame is to begin, and a pulse that is asked for, and callbacks are posted and removed alone, the state may be given back
pub keeps_pulse : (key : Constants) (v : View) (x y : StampedFrames) (s : Sat) → s ≡ (taking v x s.0.heard, (0, None) ∷ []) → y.stamp ≡ x.stamp → KeepsWait x y → AsksIfScheduled key x
    → GrowsQuietly x.frames.entries y.frames.entries → MayPulse key s.0 y
keeps_pulse key v x y s took stamp waits asks quiet = subst (λ (z : Sat). MayPulse key z.0 y) (sym took) (λ n named elsewhere. (stamp, waits.awaits, quiet, waits.asked key asks n named))

-- the seat of the pass that alone delivers pulses may change it
pub may_pulse : (key : Constants) (v : View) (x y : StampedFrames) (made : List (ℕ × FrameEntry)) (number : ℕ) → v.passes ≡ number ∷ [] → ((n : ℕ) → key.pulses ≡ Some n → number ≡ n) → MayPulse key (taking v x made) y
may_pulse key v x y made number only mine = λ n named elsewhere.
    let is = mine n named in
    let here : cond {A = ℕ} (eqb number n) 1 0 ≡ 1 = ap (λ b. cond {A = ℕ} b 1 0) (eq-eqb number n is) in
    let one : holds n v ≡ 1 = ap (count_of n) only ∙ omega (arith, here) in
    absurd (omega (arith, one, elsewhere))

-- the last pass, where it is a view's only one
pub holds_last : (key : Constants) (v : View) (number : ℕ) → v.passes ≡ number ∷ [] → number + 1 ≡ key.passes → holds (last_of key) v ≡ 1
holds_last key v number only last =
    let here : cond {A = ℕ} (eqb number (last_of key)) 1 0 ≡ 1 = ap (λ b. cond {A = ℕ} b 1 0) (eq-eqb number (last_of key) (omega (arith, last))) in
    ap (count_of (last_of key)) only ∙ omega (arith, here)

-- its seat may hand entries out
pub may_seal : (key : Constants) (v : View) (x y : StampedFrames) (made : List (ℕ × FrameEntry)) (number : ℕ) → v.passes ≡ number ∷ [] → number + 1 ≡ key.passes → length x.frames.sealed ≤ length y.frames.sealed
    → MaySeal key (taking v x made) y
may_seal key v x y made number only last more = (more, λ no_last. absurd (let one = holds_last key v number only last in omega (arith, one, no_last)))

-- a state with the entries that were found may be given back
pub same_gives : (v : View) (x y : StampedFrames) → v.seen ≡ x.frames.entries → y.frames.entries ≡ x.frames.entries → MayGive v y
same_gives v x y seen same =
    let all : v.seen ≡ y.frames.entries = seen ∙ sym same in
    (subst (IsPrefix v.seen) all (prefix_self v.seen), λ none f going. subst (GrowsQuietly v.seen) all (grows_self v.seen))

-- a sealing hands out a part, or nothing
pub hands_more : (s t : Frames) (answer : Result (List FrameEntry) NoMemory) → Seals s answer t → length s.sealed ≤ length t.sealed
hands_more s t (Ok part) h =
    let whole = ap length h.0 in
    let all : length t.sealed ≡ length s.entries = ap (λ (f : Frames). length f.sealed) h.1 in
    omega (arith, whole, all, length-append s.sealed part)
hands_more s t (Err e) h = let same = ap (λ (f : Frames). length f.sealed) h in omega (arith, same)

pub part_handed : (before : Pass) (s t : Frames) (answer : Result (List FrameEntry) NoMemory) → Seals s answer t → (handed : ℕ) → handed ≡ before.view.handed + (length t.sealed - length s.sealed)
    → IfOk answer (λ part. handed ≡ before.view.handed + length part)
part_handed before s t (Ok part) h handed is =
    let whole = ap length h.0 in
    let all : length t.sealed ≡ length s.entries = ap (λ (f : Frames). length f.sealed) h.1 in
    omega (arith, whole, all, is, length-append s.sealed part)
part_handed before s t (Err e) h handed is = tt

no_progress : (phases : ℕ) (entries : List FrameEntry) (f : Progress) → next_phase phases (reverse entries) ≡ None → progress phases entries ≡ Some f → ⊥
no_progress phases entries f none e = let wrong : None ≡ Some f = ap (progress_of (begin_place (reverse entries))) (sym none) ∙ e in cc (wrong)

-- what the beginning of a frame leaves may be given back
pub begin_gives : (v : View) (x y : StampedFrames) (start : ℕ) (answer : Beginning) → v.seen ≡ x.frames.entries → StepsBy x y → BeginsBy x.frames x.stamp start answer y.frames → MayGive v y
begin_gives v x y start answer seen steps begins = (
  subst (λ l. IsPrefix l y.frames.entries) (sym seen) steps.1,
  λ none f going. by_answer answer begins f (subst (λ (z : ℕ × List FrameEntry). progress z.0 z.1 ≡ Some f) (λ i. (steps.0.2 i, seen i)) going),
)
  where
    same : y.frames ≡ x.frames → GrowsQuietly v.seen y.frames.entries
    same e = subst (λ (z : List FrameEntry × List FrameEntry). GrowsQuietly z.0 z.1) (λ i. (sym seen i, (sym e i).entries)) (grows_self x.frames.entries)

    by_answer : (a : Beginning) → BeginsBy x.frames x.stamp start a y.frames → (f : Progress) → progress x.frames.phases x.frames.entries ≡ Some f → GrowsQuietly v.seen y.frames.entries
    by_answer (begin.Began time) b f going = absurd (no_progress x.frames.phases x.frames.entries f b.0 going)
    by_answer (begin.Running next) b f going = same b.1
    by_answer begin.Unscheduled b f going = absurd (no_progress x.frames.phases x.frames.entries f b.0 going)
    by_answer (begin.Backwards last) b f going = absurd (no_progress x.frames.phases x.frames.entries f b.0 going)
    by_answer begin.NoMemory b f going = same b
