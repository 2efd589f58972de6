-- Where a looper stands as it begins, as a round of it begins and ends, and at its end.
use Rattle.std.proofs.Common.{◌≡◌, ℕ, ◌<◌, ◌≤◌, ◌⊎◌, inl, inr, Bool, true, false, List, [], ◌∷◌, ◌+◌, map, length, get_or, replicate, Option, Some, None, refl, sym, ap, ◌∙◌, subst, arith, eq-eqb}
use Rattle.std.specs.Prelude.{slice_index_or}
use Rattle.std.specs.List.{insert, remove, filter_map, list_any}
use Rattle.loop_model.specs.Base.{empty_base}
use Rattle.loop_model.specs.Answers.{clock}
use Rattle.choreographer.specs.Turn.{has_later}
use Rattle.std.specs.Option.{IsSomeAnd}
use Rattle.std.proofs.lemmas.List.{length-replicate}
use Rattle.std.proofs.lemmas.List.Edits.{get_or-remove_below, get_or-remove_above, length-remove}
use Rattle.std.proofs.lemmas.Bool.{cases_lt}
use mathlib.Core.List.{IsPrefix}
use Rattle.loop_model.specs.declared.entry.Entry.{Entry}
use Rattle.loop_model.specs.declared.journal.Act.{Act}
use Rattle.loop_model.specs.declared.journal.Journal.{Journal}
use Rattle.dash_script.specs.declared.script.Script.{Script}
use Rattle.looper_run.specs.declared.looper.Round.{Round}
use Rattle.looper_run.specs.declared.looper.Round.TheVariants.{Drained, Ended, NoMemory}
use Rattle.looper_run.specs.Holding.{Sender, Looping}
use Rattle.looper_run.specs.Round.{UnlessWanting}
use Rattle.looper_run.specs.Tests.{Passes, IsSameLooper}
use Rattle.choreographer.specs.Known.{Pass}
use Rattle.run_model.specs.Planned.{entries_by, AreFor, sender_count}
use Rattle.run_model.specs.Loopers.{LooperState, first_looper, ActsLead, IsSent, pulse_stamp, has_frames, pulses_come_first}
use Rattle.run_model.specs.Parts.{sent_on}
use Rattle.dash_hall.specs.declared.hall.Hall.{Hall}
use Rattle.dash_hall.specs.declared.kit.Kit.{Kit}
use Rattle.dash_hall.specs.Kits.{IsHall, AreUnseen}
use Rattle.dash_hall.specs.Growth.{own}
use Rattle.run_model.specs.FrameRecords.{asks_in, as_told, is_begin, nanos_of}
use Rattle.dash_loopers.specs.declared.player.Parts.{Parts}
use Rattle.dash_loopers.specs.declared.looper.StageLooper.{StageLooper}
use Rattle.dash_loopers.specs.Players.{Owner}
use Rattle.dash_loopers.specs.Loopers.{IsLooper, IsSoundOn, is_given_up}
use Rattle.dash_loopers.specs.Played.{standing, gauge_fixed, fixed_by, IsBarrierOf, paint_of, calls_in, calls_of, IsPlayed, StandsBy, StandsBetweenRounds, StandsBetweenLoops, ComesTo, IsPlaying, HasPlayed, PassHasAsked, HasLeft, HasLatest}
use Rattle.dash_loopers.proofs.LooperAsks.{asked_whole}
use Rattle.dash_loopers.proofs.LooperSeats.{its_place, at_other, within_others}
use Rattle.dash_loopers.proofs.LooperKits.{looper_of, parts_of, others_many, own_again}

-- ---- as it begins

pub unseen_without : (xs : List Sender) (n : ℕ) → n < length xs → AreUnseen xs → AreUnseen (remove xs n)
unseen_without xs n within unseen = λ j d near. by_order j d near (cases_lt j n)
  where
    by_order : (j : ℕ) (d : Sender) → j < length (remove xs n) → (j < n) ⊎ (n ≤ j) → (get_or (remove xs n) j d).view.seen ≡ []
    by_order j d near (inl lt) = ap (λ (p : Sender). p.view.seen) (get_or-remove_below xs n d j lt within) ∙ unseen j d (omega (arith, lt, within))
    by_order j d near (inr le) = ap (λ (p : Sender). p.view.seen) (get_or-remove_above xs n d j le within) ∙ unseen (j + 1) d (omega (arith, near, length-remove xs n within))

-- a looper that has done nothing stands at the first state
pub stands_first : (s : Script) (q k : ℕ) (seen : List Entry) (acts : List Act) (parts : Parts) → seen ≡ [] → acts ≡ []
    → map standing parts.root.gauges.items ≡ replicate (length s.gauges) (record { value = 0; target = 0; animating = false }) → map gauge_fixed parts.root.gauges.items ≡ map (fixed_by s q) s.gauges
    → parts.root.barrier ≡ None → parts.root.painted.items ≡ [] → parts.root.edition ≡ s.edition → AreUnseen parts.others.items → parts.fired.items ≡ replicate (length s.rules) 0 → parts.frames.view.own ≡ [] → HasLatest parts.frames 0 false → parts.awaits ≡ false → parts.frames.view.seen ≡ []
    → StandsBy true s q k seen acts parts (first_looper s)
stands_first s q k seen acts parts none still gauges lines barrier painted edition unseen fired unasked unpulsed unawaited unseen_frames = record {
  led = λ fs begins law. subst (λ (xs : List Act). ActsLead s q seen fs (first_looper s) xs (first_looper s)) (sym still) refl;
  place = omega arith;
  last = ap (list_any is_begin) unseen_frames;
  settled = refl;
  latest_is = unpulsed;
  awaits_is = unawaited;
  in_time = λ is sound. record {
    up_to = ap (has_later (nanos_of (clock (empty_base (sender_count s)) seen))) unseen_frames;
    pulses = ap (λ (xs : List Act). length (filter_map pulse_stamp xs)) still;
  };
  played = subst (λ (es : List Entry). IsPlayed true s q (calls_in k es) parts (first_looper s)) (sym none) (record {
    shown = record {
      calls = tt;
      asked = ap (λ l. map (as_told true) (asks_in l)) unasked;
      stands = record {
        edition = edition;
        gauges = gauges;
        lines = lines;
        barrier = subst (λ (o : Option ℕ). IsBarrierOf [] None o) (sym barrier) tt;
        barriers = refl;
        painted = ap (map paint_of) painted;
      };
    };
    elsewhere = λ place j d at near. subst (λ es. AreFor IsSent [] [] es) (sym (ap (entries_by (slice_index_or parts.others.items j d).sender) (unseen j d near))) tt;
    fired = fired;
    counts = ap length fired ∙ length-replicate (length s.rules) 0;
  });
}

-- where a looper stands in lockstep it stands as free mode tells it
pub stands_free : (s : Script) (q k : ℕ) (es : List Entry) (acts : List Act) (parts : Parts) (a : LooperState) → StandsBy true s q k es acts parts a → StandsBy false s q k es acts parts a
stands_free s q k es acts parts a st = record {
  led = st.led;
  place = st.place;
  last = st.last;
  settled = st.settled;
  latest_is = st.latest_is;
  awaits_is = st.awaits_is;
  in_time = λ is. absurd (let wrong : false ≡ true = is in cc);
  played = record {
    shown = record {
      calls = st.played.shown.calls;
      asked = ap (map (as_told false)) (asked_whole parts.frames a.asked st.played.shown.asked);
      stands = st.played.shown.stands;
    };
    elsewhere = st.played.elsewhere;
    fired = st.played.fired;
    counts = st.played.counts;
  };
}

pub comes_free : (s : Script) (l : StageLooper) (a : LooperState) → StandsBetweenRounds s l a → StandsBetweenLoops s l a
comes_free s l a come = from l.parts come.0
  where
    from : (o : Option Parts) → IsSomeAnd o (λ parts. StandsBy true s l.number l.sender l.looper.held.poster.view.seen l.looper.held.journal.acts parts a)
        → IsSomeAnd o (λ parts. StandsBy false s l.number l.sender l.looper.held.poster.view.seen l.looper.held.journal.acts parts a)
    from None h = absurd h
    from (Some parts) h = stands_free s l.number l.sender l.looper.held.poster.view.seen l.looper.held.journal.acts parts a h

-- ---- a round

pub unless : (r : Round) (P : Type 0) → is_given_up r ≡ false → UnlessWanting r P → P
unless (Drained dispatched until) P going h = h
unless (Ended dispatched) P going h = h
unless NoMemory P going h = absurd cc

-- as a round ends
pub played_round : (s : Script) (hall : Hall) (now : ℕ) (l began : StageLooper) (o : Owner) (d : ℕ) (parts' : Parts) (after : Looping) (last : Round) → began ≡ l → l.looper.held.poster.sender ≡ l.sender
    → o ≡ record { script = s; hall = hall; number = l.number; now = now; began = began } → IsSameLooper l.looper.held after.held
    → (is_given_up last ≡ false → Passes (λ k es acts. IsPlaying o.script o.number o.now o.began d k es acts parts') after.held)
    → HasPlayed s now l (record { number = l.number; sender = l.sender; looper = after; parts = Some parts'; last = last; dispatched = d })
played_round s hall now l began o d parts' after last same mine origin kept meets = λ going text a come.
    let here : IsPlaying s l.number now began d after.held.poster.sender after.held.poster.view.seen after.held.journal.acts parts' =
    subst (λ (x : Owner). IsPlaying x.script x.number x.now x.began d after.held.poster.sender after.held.poster.view.seen after.held.journal.acts parts') origin (meets going) in
    let from : IsPlaying s l.number now l d after.held.poster.sender after.held.poster.view.seen after.held.journal.acts parts' =
    subst (λ (b : StageLooper). IsPlaying s l.number now b d after.held.poster.sender after.held.poster.view.seen after.held.journal.acts parts') same here in
    subst (λ (k : ℕ). ComesTo s l.number now a d k l.looper.held.poster.view.seen after.held.poster.view.seen after.held.journal.acts parts') (kept.sender ∙ mine) (from text a come)

-- and with parts that are the same unless memory ran out
pub played_left : (s : Script) (now : ℕ) (l : StageLooper) (d : ℕ) (after : Looping) (last : Round) (p q : Parts) → (is_given_up last ≡ false → q ≡ p)
    → HasPlayed s now l (record { number = l.number; sender = l.sender; looper = after; parts = Some p; last = last; dispatched = d })
    → HasPlayed s now l (record { number = l.number; sender = l.sender; looper = after; parts = Some q; last = last; dispatched = d })
played_left s now l d after last p q same h = λ going.
    subst (λ (z : Parts). HasPlayed s now l (record { number = l.number; sender = l.sender; looper = after; parts = Some z; last = last; dispatched = d })) (sym (same going)) h going

-- ---- at its end

module _ (s : Script) (hall : Hall) (l : StageLooper) (parts : Parts) (j : Journal) (kit : Kit) (is_hall : IsHall s hall) (is : IsLooper s hall l) (e : l.parts ≡ Some parts)
    (posters : kit.posters.items ≡ insert parts.others.items l.number l.looper.held.poster) (frames : kit.frames.items ≡ parts.frames ∷ []) (journal : j ≡ l.looper.held.journal) where
  many : l.number ≤ length parts.others.items
  many = others_many s hall l.number (looper_of s hall l is_hall is) parts (parts_of s hall l parts is e)

  mine : (d : Sender) → get_or kit.posters.items l.number d ≡ l.looper.held.poster
  mine d = own_again s hall l parts kit.posters.items is_hall is e posters d

  -- what it leaves tells where it stood, in its mode
  left_in : (lockstep : Bool) (a : LooperState) → StandsBy lockstep s l.number l.sender l.looper.held.poster.view.seen l.looper.held.journal.acts parts a
      → (lockstep ≡ true → pulses_come_first l.looper.held.journal.acts ≡ true) → HasLeft lockstep s l.number j kit a
  left_in lockstep a st first = record {
    led = λ d p fs begins law.
        subst (λ (x : Sender). ActsLead s l.number x.view.seen fs (first_looper s) j.acts a) (sym (mine d))
        (subst (λ (x : Journal). ActsLead s l.number l.looper.held.poster.view.seen fs (first_looper s) x.acts a) (sym journal)
        (st.led fs (subst (λ (ps : List Pass). IsPrefix (slice_index_or ps 0 p).view.seen fs) frames begins) law));
    pulses = λ d locked sound.
        subst (λ (x : Journal). has_frames x.acts a ≡ true) (sym journal)
        (eq-eqb _ _ (st.in_time locked (subst (λ (x : Sender). IsSoundOn s l.number x.view.seen) (mine d) sound)).pulses);
    pulses_first = λ locked. subst (λ (x : Journal). pulses_come_first x.acts ≡ true) (sym journal) (first locked);
    settled = st.settled;
    calls = λ d. subst (λ (x : Sender). AreFor IsSent [] (sent_on l.number a.sent) (calls_of x)) (sym (mine d))
        (subst (λ (k : ℕ). AreFor IsSent [] (sent_on l.number a.sent) (calls_in k l.looper.held.poster.view.seen)) (sym is.own) st.played.shown.calls);
    elsewhere = λ k d apart near.
        let w = its_place l.number k apart in
        let within : k < length (insert parts.others.items l.number l.looper.held.poster) = subst (λ (ps : List Sender). k < length ps) posters near in
        subst (λ (x : Sender). AreFor IsSent [] (sent_on k a.sent) (own x))
        (sym (ap (λ (ps : List Sender). get_or ps k d) posters ∙ at_other parts.others.items l.number many l.looper.held.poster d k w.0 w.1))
        (st.played.elsewhere k w.0 d w.1 (within_others parts.others.items l.number many l.looper.held.poster k w.0 w.1 within));
    asked = λ p. subst (λ (ps : List Pass). PassHasAsked lockstep (slice_index_or ps 0 p) a.asked) (sym frames) st.played.shown.asked;
  }

  pub has_left : (a : LooperState) → StandsBetweenRounds s l a → HasLeft true s l.number j kit a
  has_left a come = left_in true a
      (subst (λ (o : Option Parts). IsSomeAnd o (λ ps. StandsBy true s l.number l.sender l.looper.held.poster.view.seen l.looper.held.journal.acts ps a)) e come.0) (λ locked. come.1.first)

  pub has_left_by : (a : LooperState) → StandsBetweenLoops s l a → HasLeft false s l.number j kit a
  has_left_by a come = left_in false a
      (subst (λ (o : Option Parts). IsSomeAnd o (λ ps. StandsBy false s l.number l.sender l.looper.held.poster.view.seen l.looper.held.journal.acts ps a)) e come)
      (λ locked. absurd (let wrong : false ≡ true = locked in cc))
