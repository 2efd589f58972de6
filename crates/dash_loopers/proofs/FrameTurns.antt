-- What the pass has seen, and what its frame runs, from turn to turn of a frame.
use Rattle.std.proofs.Common.{◌≡◌, ℕ, ◌+◌, ◌<◌, ◌≤◌, Bool, true, false, List, [], ◌∷◌, ◌++◌, map, length, drop, reverse, Option, Some, None, refl, sym, ap, ◌∙◌, subst, arith, append_assoc, eq-eqb}
use Rattle.std.specs.Prelude.{if◌then◌else◌, nat_lt, nat_le, ◌==◌, slice_get}
use Rattle.std.specs.List.{list_any}
use Rattle.std.specs.Option.{option_map_or}
use Rattle.std.proofs.Math.ListN.{drop_of_length-le}
use Rattle.std.proofs.lemmas.Bool.{or_from, and_from, le-leb}
use Rattle.std.proofs.lemmas.Bool.Decides.{nat_tests}
use Rattle.std.proofs.lemmas.List.{length-append, length-reverse}
use Rattle.std.proofs.lemmas.List.Elements.{filter_map-append}
use Rattle.std.proofs.lemmas.List.Folds.{list_any-append}
use Rattle.std.proofs.lemmas.List.FromFn.{map-range_with_len_more}
use mathlib.Core.List.{IsPrefix}
use Rattle.loop_model.proofs.Prefixes.{prefix_self, prefix_trans, prefix_length}
use Rattle.frame_phases.specs.declared.entry.Callback.{Callback}
use Rattle.frame_phases.specs.declared.entry.FrameEntry.{FrameEntry}
use Rattle.frame_phases.specs.declared.entry.FrameEntry.TheVariants.{Begin, Take, Ran}
use Rattle.frame_phases.specs.declared.entry.Beginning.TheVariants as begin
use Rattle.frame_phases.specs.declared.entry.Took.TheVariants as took
use Rattle.frame_phases.specs.Frames.{lawful, owed_callbacks}
use Rattle.frame_phases.specs.State.{Frames, ran}
use Rattle.frame_phases.proofs.History.{past-push}
use Rattle.choreographer.specs.declared.state.StampedFrames.{StampedFrames}
use Rattle.choreographer.specs.declared.view.Constants.{Constants}
use Rattle.choreographer.specs.Frame.{Batch, begin_place, GrowsQuietly}
use Rattle.choreographer.specs.Turn.{has_later, is_moment_later}
use Rattle.choreographer.specs.Known.{SharedFrames, Pass, IsFrameTurn, MayBegin, SeesQuietly}
use Rattle.choreographer.specs.Calls.{BeginTurn}
use Rattle.choreographer.specs.Within.{InFrame, TakesBatch}
use Rattle.choreographer.proofs.Counting.{drop_prefix}
use Rattle.choreographer.proofs.InTime.{later_quietly, turn_quiet, turn_up_to}
use Rattle.choreographer.proofs.Phases.{has_frame}
use Rattle.choreographer.proofs.Pulsing.{never_unscheduled}
use Rattle.choreographer.proofs.Recorded.{turn_records}
use Rattle.choreographer.proofs.Quiet.{begin_quiet, next_quiet}
use Rattle.choreographer.proofs.Waits.{taken_waits, begun_none, backwards_none}
use Rattle.run_model.specs.FrameRecords.{is_begin, phase_ids, begins_with, Begins, Takes, asked_in, asks_in}
use Rattle.dash_hall.specs.Kits.{frame_badge_of}
use Rattle.dash_hall.specs.Hosts.{pass_asks}
use Rattle.dash_hall.proofs.Badges.{frame_turn_badge}
use Rattle.dash_loopers.specs.FrameParts.{GoesOnInFrame, RanPhases, RanPhase}
use Rattle.dash_loopers.specs.Played.{RanFrame, RunsInTime, EndsLatest}
use Rattle.dash_loopers.specs.Steps.{PostsOn}
use Rattle.dash_loopers.proofs.FrameIds.{turn_grew, phase_told}
use Rattle.dash_loopers.proofs.LatestPulses.{latest_by, turn_keeps_latest}
use Rattle.dash_loopers.proofs.QuietPosts.{alone_on}
use Rattle.dash_loopers.proofs.LooperLists.{at_seam}
use Rattle.dash_loopers.proofs.WantedPulses.{quiet_none, last_quietly}

-- a turn asks for what it recorded
asks_of_turn : (before after : Pass) (x y : StampedFrames) (more : List FrameEntry) → IsFrameTurn before after x y → x.frames.entries ++ more ≡ y.frames.entries → pass_asks after ≡ pass_asks before ++ asks_in more
asks_of_turn before after x y more turn is = ap asks_in (turn_records before after x y more turn is) ∙ filter_map-append asked_in before.view.own more

asks_none : (cs : List Callback) → asks_in (map ran cs) ≡ []
asks_none [] = refl
asks_none (c ∷ cs) = asks_none cs

-- ---- within a frame

pub on_still : (is_moment : ℕ → Bool) (p : Pass) → GoesOnInFrame is_moment p p
on_still is_moment p = record {
  grew = prefix_self p.view.seen;
  latest = λ stamp awaits has. has;
  none = λ c e named. ap (list_any is_begin) (drop_of_length-le p.view.seen (omega arith));
  up_to = λ t only c e named was. was;
}

-- what the pass saw more in two steps, where no frame begins in either
none_then : (xs ys zs : List FrameEntry) → IsPrefix xs ys → IsPrefix ys zs → list_any is_begin (drop (length xs) ys) ≡ false → list_any is_begin (drop (length ys) zs) ≡ false → list_any is_begin (drop (length xs) zs) ≡ false
none_then xs ys zs p q early late =
    let whole : xs ++ (p.0 ++ q.0) ≡ zs = sym (append_assoc xs p.0 q.0) ∙ (ap (λ l. l ++ q.0) p.1 ∙ q.1) in
    ap (list_any is_begin) (drop_prefix xs (p.0 ++ q.0) zs whole) ∙ (list_any-append is_begin p.0 q.0
    ∙ or_from (list_any is_begin p.0) (list_any is_begin q.0) (ap (list_any is_begin) (sym (drop_prefix xs p.0 ys p.1)) ∙ early) (ap (list_any is_begin) (sym (drop_prefix ys q.0 zs q.1)) ∙ late))

pub on_then : (is_moment : ℕ → Bool) (before middle after : Pass) → frame_badge_of middle ≡ frame_badge_of before → GoesOnInFrame is_moment before middle → GoesOnInFrame is_moment middle after
    → GoesOnInFrame is_moment before after
on_then is_moment before middle after same f g = record {
  grew = prefix_trans before.view.seen middle.view.seen after.view.seen f.grew g.grew;
  latest = λ stamp awaits has. g.latest stamp awaits (f.latest stamp awaits has);
  none = λ c e named. none_then before.view.seen middle.view.seen after.view.seen f.grew g.grew (f.none c e named) (alone_on before middle _ same g.none c e named);
  up_to = λ t only c e named was. alone_on before middle _ same (g.up_to t only) c e named (f.up_to t only c e named was);
}

-- posts go on in a frame
pub posts_on : (is_moment : ℕ → Bool) (before after : Pass) → PostsOn before after → GoesOnInFrame is_moment before after
posts_on is_moment before after p = record {
  grew = p.seen;
  latest = p.latest;
  none = λ c e named. (let g = p.quiet c e named in ap (list_any is_begin) (drop_prefix before.view.seen g.0 after.view.seen g.1) ∙ quiet_none g.0 g.2);
  up_to = λ t only c e named was. later_quietly t before.view.seen after.view.seen (p.quiet c e named) was;
}

not_later : (t n : ℕ) → n ≡ t → nat_lt t n ≡ false
not_later t n same = grind (arith, nat_tests)

-- no entry of a callback that runs passes a test that none passes
rans_apart : (test : FrameEntry → Bool) → ((n : ℕ) → test (Ran n) ≡ false) → (cs : List Callback) → list_any test (map ran cs) ≡ false
rans_apart test none [] = refl
rans_apart test none (c ∷ cs) = or_from (test (Ran c.number)) (list_any test (map ran cs)) (none c.number) (rans_apart test none cs)

-- a turn took the phase that is next
module _ (is_moment : ℕ → Bool) (key : Constants) (phase : ℕ) (b : Batch) (before after : Pass) (inside : InFrame key.phases before (Some phase)) (takes : TakesBatch is_moment key.phases phase b before after) where
  abbrev found : StampedFrames
  found = takes.2.0

  abbrev left : StampedFrames
  left = takes.2.1

  abbrev more : List FrameEntry
  more = Take phase b.now b.time ∷ map ran b.callbacks

  turn : IsFrameTurn before after found left
  turn = takes.2.2

  leaves : found.frames.entries ++ more ≡ left.frames.entries
  leaves = sym (ap (λ (f : Frames). f.entries) takes.2.3.3)

  seen_is : after.view.seen ≡ found.frames.entries ++ more
  seen_is = turn.seen ∙ sym leaves

  quiet : GrowsQuietly before.view.seen found.frames.entries
  quiet = (turn.begins.1 _ (has_frame key.phases before phase inside)).1

  badge : frame_badge_of after ≡ frame_badge_of before
  badge = frame_turn_badge before after found left turn

  took_on : GoesOnInFrame is_moment before after
  took_on = record {
    grew = takes.1.grew;
    latest = turn_keeps_latest before after found left turn takes.2.4 (taken_waits found left phase b.now (took.Batch b.time b.callbacks) takes.2.3).awaits;
    none = λ c e named. (
        let whole : before.view.seen ++ (quiet.0 ++ more) ≡ after.view.seen = sym (append_assoc before.view.seen quiet.0 more) ∙ (ap (λ l. l ++ more) quiet.1 ∙ sym seen_is) in
        ap (list_any is_begin) (drop_prefix before.view.seen (quiet.0 ++ more) after.view.seen whole)
        ∙ (list_any-append is_begin quiet.0 more ∙ or_from (list_any is_begin quiet.0) (list_any is_begin more) (quiet_none quiet.0 quiet.2) (rans_apart is_begin (λ n. refl) b.callbacks)));
    up_to = λ t only. turn_up_to t before after found left more turn leaves
        (or_from (nat_lt t b.now) (has_later t (map ran b.callbacks)) (not_later t b.now (only b.now takes.0.0)) (rans_apart (is_moment_later t) (λ n. refl) b.callbacks));
  }

  pub took_asks : pass_asks after ≡ pass_asks before ++ Takes phase b.now ∷ []
  took_asks = asks_of_turn before after found left more turn leaves ∙ ap (λ l. pass_asks before ++ Takes phase b.now ∷ l) (asks_none b.callbacks)

  told : (interval : ℕ) (fs : List FrameEntry) → IsPrefix after.view.seen fs → lawful interval key.phases fs ≡ true → phase_ids fs (begin_place (reverse before.view.seen)) phase ≡ map (λ (c : Callback). c.id) b.callbacks
  told interval fs begins law =
      let xs : List FrameEntry = found.frames.entries in
      ap (λ n. phase_ids fs n phase) (sym (begin_quiet before.view.seen xs quiet))
      ∙ phase_told interval key.phases phase b.now b.time b.callbacks xs fs law (subst (λ (l : List FrameEntry). IsPrefix l fs) seen_is begins) (next_quiet key.phases before.view.seen xs quiet ∙ inside.is_next)
      takes.2.3.1 (subst (λ (l : List FrameEntry). owed_callbacks (reverse l) ≡ []) seen_is takes.1.frame.settled)

  -- it runs what was taken, and what it ran may have posted
  pub phase_ran : (interval : ℕ) (last : Pass) → PostsOn after last → RanPhase interval key.phases is_moment phase before last (map (λ (c : Callback). c.id) b.callbacks)
  phase_ran interval last posts = record {
    on = on_then is_moment before after last badge took_on (posts_on is_moment after last posts);
    ran = λ fs begins law. told interval fs (prefix_trans after.view.seen last.view.seen fs posts.seen begins) law;
    next = λ within. (
        let apart : (phase + 1 == key.phases) ≡ false = grind (arith, nat_tests) in
        let f = posts.frame key.phases (phase + 1) (subst (InFrame key.phases after) (ap (λ t. if t then None else Some (phase + 1)) apart) takes.1.frame) in
        (f.0, f.1 ∙ takes.1.begin));
  }

-- no phase was taken yet
pub no_phases : (interval phases : ℕ) (is_moment : ℕ → Bool) (p : Pass) → InFrame phases p (Some 0) → RanPhases interval phases is_moment 0 p p []
no_phases interval phases is_moment p inside = record { on = on_still is_moment p; each = refl; ran = λ fs begins law. refl; next = λ some. (inside, refl) }

-- one phase more
pub phases_more : (interval phases : ℕ) (is_moment : ℕ → Bool) (count : ℕ) (before middle after : Pass) (ids : List (List ℕ)) (one : List ℕ) → count < phases → frame_badge_of middle ≡ frame_badge_of before
    → RanPhases interval phases is_moment count before middle ids → RanPhase interval phases is_moment count middle after one → RanPhases interval phases is_moment (count + 1) before after (ids ++ one ∷ [])
phases_more interval phases is_moment count before middle after ids one within same h t =
    let begin = (h.next within).1 in
    let place : ℕ = begin_place (reverse before.view.seen) in
    record {
      on = on_then is_moment before middle after same h.on t.on;
      each = length-append ids (one ∷ []) ∙ ap (λ n. n + 1) h.each;
      ran = λ fs begins law. (
          let early = h.ran fs (prefix_trans middle.view.seen after.view.seen fs t.on.grew begins) law in
          let late : phase_ids fs place count ≡ one = ap (λ n. phase_ids fs n count) (sym begin) ∙ t.ran fs begins law in
          map-range_with_len_more (phase_ids fs place) 0 count count (omega arith) ∙ (λ i. early i ++ late i ∷ []));
      next = λ more. (let f = t.next more in (f.0, f.1 ∙ begin));
    }

-- ---- a frame that began, and its phases

module _ (interval start time : ℕ) (key : Constants) (is_moment : ℕ → Bool) (before middle after : Pass) (ids : List (List ℕ)) (moment : is_moment start ≡ true) (began : BeginTurn before middle start (begin.Began time))
    (ran : RanPhases interval key.phases is_moment key.phases middle after ids) where
  abbrev begins_at : StampedFrames
  begins_at = began.0

  abbrev begin_is : FrameEntry
  begin_is = Begin begins_at.stamp start time

  begin_turn : IsFrameTurn before middle begins_at began.1
  begin_turn = began.2

  begun : begins_at.frames.entries ++ begin_is ∷ [] ≡ began.1.frames.entries
  begun = sym (ap (λ (f : Frames). f.entries) began.3.4)

  middle_is : middle.view.seen ≡ begins_at.frames.entries ++ begin_is ∷ []
  middle_is = begin_turn.seen ∙ sym begun

  begin_badge : frame_badge_of middle ≡ frame_badge_of before
  begin_badge = frame_turn_badge before middle begins_at began.1 begin_turn

  abbrev place : ℕ
  place = begin_place (reverse middle.view.seen)

  place_is : place ≡ length begins_at.frames.entries
  unfolding begin_place
  place_is = ap (λ l. begin_place (reverse l)) middle_is ∙ (ap begin_place (past-push begins_at.frames.entries begin_is) ∙ length-reverse begins_at.frames.entries)

  -- it is the last entry that the pass had seen then
  long : length middle.view.seen ≡ place + 1
  long = ap length middle_is ∙ (length-append begins_at.frames.entries (begin_is ∷ []) ∙ ap (λ n. n + 1) (sym place_is))

  stands : (fs : List FrameEntry) → IsPrefix after.view.seen fs → slice_get fs place ≡ Some begin_is
  stands fs begins =
      let whole = prefix_trans middle.view.seen after.view.seen fs ran.on.grew begins in
      let fs_are : fs ≡ begins_at.frames.entries ++ begin_is ∷ whole.0 = sym whole.1 ∙ (ap (λ l. l ++ whole.0) middle_is ∙ append_assoc begins_at.frames.entries (begin_is ∷ []) whole.0) in
      (λ i. slice_get (fs_are i) (place_is i)) ∙ at_seam begins_at.frames.entries begin_is whole.0

  near : length before.view.seen ≤ place
  near = let le = prefix_length before.view.seen begins_at.frames.entries begin_turn.begins.0 in let is = place_is in omega (arith, le, is)

  pub frame_asks : pass_asks middle ≡ pass_asks before ++ Begins start ∷ []
  frame_asks = asks_of_turn before middle begins_at began.1 (begin_is ∷ []) begin_turn begun

  pub frame_ran : RanFrame interval key.phases is_moment before after (Some ids)
  frame_ran = record {
    frame = Some place;
    framed = λ fs begins law. (
      and_from (nat_le (length before.view.seen) place) (option_map_or is_begin (slice_get fs place) false) (le-leb (length before.view.seen) place near) (ap (λ o. option_map_or is_begin o false) (stands fs begins)),
      ap Some (ran.ran fs begins law),
    );
    within = (let le = prefix_length middle.view.seen after.view.seen ran.on.grew in let l = long in omega (arith, le, l));
    grew = prefix_trans before.view.seen middle.view.seen after.view.seen (turn_grew before middle begins_at began.1 begin_turn) ran.on.grew;
    stamped = λ stamp awaits has fs begins. (
        let same : begins_at.stamp ≡ stamp = (begin_turn.stamp has.key has.constants has.alone).0 ∙ has.has in
        ap (λ (o : Option FrameEntry). option_map_or (begins_with stamp) o false) (stands fs begins) ∙ eq-eqb begins_at.stamp stamp same);
    in_time = λ t stamp awaits only has up_to. (
        let started = turn_up_to t before middle begins_at began.1 (begin_is ∷ []) begin_turn begun (or_from (nat_lt t start) false (not_later t start (only start moment)) refl) has.key has.constants has.alone up_to in
        (alone_on before middle _ begin_badge (ran.on.up_to t only) has.key has.constants has.alone started, λ waiting over. refl));
    last = λ c e named first le none. subst (λ n. list_any is_begin (drop n after.view.seen) ≡ false) long (alone_on before middle _ begin_badge ran.on.none c e named);
  }

  pub frame_ends_latest : EndsLatest before after
  frame_ends_latest stamp has =
      let s = begin_turn.stamp has.key has.constants has.alone in
      let w = begin_turn.awaits has.key has.constants has.alone in
      ran.on.latest stamp false (latest_by before middle stamp true has stamp false begin_badge (s.1 ∙ (began.4 ∙ (s.0 ∙ has.has))) (w.1 ∙ begun_none begins_at began.1 start time began.3))

-- ---- none began

no_frame : (interval phases : ℕ) (is_moment : ℕ → Bool) (before after : Pass) → IsPrefix before.view.seen after.view.seen → RunsInTime is_moment before after None → SeesQuietly before after
    → RanFrame interval phases is_moment before after None
no_frame interval phases is_moment before after grew in_time quiet = record {
  frame = None;
  framed = λ fs begins law. (refl, refl);
  within = omega arith;
  grew = grew;
  stamped = λ stamp awaits has fs begins. refl;
  in_time = in_time;
  last = λ c e named first le none. last_quietly first before.view.seen after.view.seen (quiet c e named) le none;
}

-- since it would go back
pub ran_backwards : (interval phases : ℕ) (is_moment : ℕ → Bool) (before after : Pass) (start last : ℕ) → is_moment start ≡ true → BeginTurn before after start (begin.Backwards last) → has_later start after.view.seen ≡ true
    → RanFrame interval phases is_moment before after None × EndsLatest before after
ran_backwards interval phases is_moment before after start last moment t late =
    let quiet = turn_quiet before after t.0 t.1 t.2 (ap (λ (f : Frames). f.entries) t.3.4) in (
      no_frame interval phases is_moment before after (turn_grew before after t.0 t.1 t.2)
          (λ n stamp awaits only has up_to. (
          let none = later_quietly n before.view.seen after.view.seen (quiet has.key has.constants has.alone) up_to in
          let later : has_later n after.view.seen ≡ true = subst (λ (m : ℕ). has_later m after.view.seen ≡ true) (only start moment) late in
          let wrong : false ≡ true = sym none ∙ later in
          absurd (cc (wrong)))) quiet,
      λ stamp has. (
          let s = t.2.stamp has.key has.constants has.alone in
          let w = t.2.awaits has.key has.constants has.alone in
          latest_by before after stamp true has stamp false (frame_turn_badge before after t.0 t.1 t.2) (s.1 ∙ (t.4 ∙ (s.0 ∙ has.has))) (w.1 ∙ backwards_none t.0 t.1 start last t.3)),
    )

-- one is always scheduled where the pass alone delivers pulses
pub ran_unscheduled : (interval phases : ℕ) (is_moment : ℕ → Bool) (q : SharedFrames) (before after : Pass) (start : ℕ) → MayBegin before q → BeginTurn before after start begin.Unscheduled
    → RanFrame interval phases is_moment before after None × EndsLatest before after
ran_unscheduled interval phases is_moment q before after start may t =
    let never = never_unscheduled q before after start may t in (
      no_frame interval phases is_moment before after (turn_grew before after t.0 t.1 t.2) (λ n stamp awaits only has up_to. absurd (never has.key has.constants has.alone))
          (turn_quiet before after t.0 t.1 t.2 (ap (λ (f : Frames). f.entries) t.3.2)),
      λ stamp has. absurd (never has.key has.constants has.alone),
    )
