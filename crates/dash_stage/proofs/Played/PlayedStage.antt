-- Loopers that only heard others have played as far, and each of their calls is as timely.
use Rattle.std.proofs.Common.{◌≡◌, ◌≢◌, ◌<◌, ◌≤◌, ◌+◌, ◌-◌, inl, inr, ℕ, Bool, true, false, List, [], map, length, Option, Some, refl, sym, ap, ◌∙◌, subst, arith}
use Rattle.std.specs.Prelude.{filter, not, slice_index_or}
use Rattle.std.specs.List.{insert}
use Rattle.std.specs.Option.{IsSomeAnd}
use Rattle.std.proofs.lemmas.Option.{same_Some}
use Rattle.std.proofs.lemmas.List.Edits.{length-insert, get_or-insert_below, get_or-insert_above}
use mathlib.Core.List.{IsPrefix}
use mathlib.Core.Logic.{dite}
use native.Mathlib.Decide.{dec_lt}
use Rattle.loop_model.specs.declared.entry.Entry.{Entry}
use Rattle.loop_model.specs.declared.journal.Act.{Act}
use Rattle.loop_model.specs.declared.journal.Journal.{Journal}
use Rattle.dash_script.specs.declared.script.Script.{Script}
use Rattle.frame_phases.specs.declared.entry.FrameEntry.{FrameEntry}
use Rattle.loop_model.proofs.Prefixes.{prefix_trans, prefix_length}
use Rattle.looper_run.specs.Holding.{Sender}
use Rattle.run_model.specs.Planned.{AreFor, entries_by, looper_sender, sender_count}
use Rattle.run_model.specs.Loopers.{LooperState, first_looper, ActsLead, IsSent}
use Rattle.run_model.specs.Parts.{sent_on}
use Rattle.loop_model.specs.Base.{empty_base}
use Rattle.loop_model.specs.Answers.{clock}
use Rattle.choreographer.specs.Known.{Pass}
use Rattle.choreographer.proofs.InTime.{later_quietly}
use Rattle.dash_loopers.proofs.WantedPulses.{last_quietly}
use Rattle.dash_loopers.specs.PlayingLaws.{runs_later}
use Rattle.run_model.specs.Control.{are_on_time, befores}
use Rattle.run_model.proofs.Growth.{ActsLead-entries}
use Rattle.dash_hall.specs.declared.hall.Hall.{Hall}
use Rattle.dash_hall.specs.Growth.{own}
use Rattle.dash_hall.specs.Kits.{IsHall}
use Rattle.dash_hall.specs.Hearing.{HaveHeard, AtEach, PassHasHeard}
use Rattle.dash_loopers.specs.declared.player.Parts.{Parts}
use Rattle.dash_loopers.specs.declared.view_root.ViewRoot.{ViewRoot}
use Rattle.dash_loopers.specs.declared.looper.StageLooper.{StageLooper}
use Rattle.dash_loopers.specs.Players.{PlaceWithout}
use Rattle.dash_loopers.specs.Loopers.{IsLooper, IsSoundOn, LooperRest, LooperKeeps, posters_of, others_in, rest_in, is_disposal}
use Rattle.dash_loopers.specs.PulsesFirst.{TellsPulsesFirst}
use Rattle.dash_loopers.specs.Played.{calls_in, IsShown, IsPlayed, HasSeenUpTo, StandsBy, StandsBetweenRounds, StandsBetweenLoops}
use Rattle.dash_stage.specs.declared.stage.Stage.{Stage}
use Rattle.dash_stage.specs.Stages.{IsStage}
use Rattle.dash_stage.specs.Sharing.{HaveSeenTheSame}
use Rattle.dash_stage.specs.Timeliness.{whole_on, AreSound}
use Rattle.dash_stage.specs.Playing.{befores_called, AreCallsOnTime, ArePlayed}
use Rattle.dash_loopers.proofs.LooperShares.{looper_parts, looper_within, own_kept, after_within, with_rest}
use Rattle.dash_stage.proofs.Stages.StageTurns.{for_count}
use Rattle.dash_stage.proofs.Stages.StageWhole.{as_many, looper_entries, looper_sees, looper_made_none, sound_grown, none_behind}
use Rattle.dash_stage.proofs.Stages.Timely.{timely_others}
use Rattle.dash_stage.proofs.Played.RoundTimes.{befores_called_of_others}
use Rattle.run_model.specs.FrameRecords.{as_told, asks_in, nanos_of}

-- ---- one looper

-- of the posters without the one at n, each made no entry more where each of all did
others_called : (n : ℕ) (xs ys : List Sender) (p p' : Sender) → n ≤ length xs → n ≤ length ys → HaveHeard (insert xs n p) (insert ys n p')
    → (length ys ≡ length xs) × ((j : ℕ) (d : Sender) → j < length xs → own (slice_index_or ys j d) ≡ own (slice_index_or xs j d))
others_called n xs ys p p' le le' heard =
    let lx = length-insert xs n p le in
    let ly = length-insert ys n p' le' in
    let long = heard.long in
    let same : length ys ≡ length xs = omega (arith, lx, ly, long) in (
      same,
      λ j d lt. dite (dec_lt j n)
          (λ below.
          let h = (heard.each j d (omega (arith, lx, lt))).called in
          ap own (sym (get_or-insert_below ys n p' d j below le')) ∙ h ∙ ap own (get_or-insert_below xs n p d j below le))
          (λ above.
          let at : n ≤ j = omega (arith, above) in
          let h = (heard.each (j + 1) d (omega (arith, lx, lt))).called in
          ap own (sym (get_or-insert_above ys n p' d j at le')) ∙ h ∙ ap own (get_or-insert_above xs n p d j at le)),
    )

-- a pass that heard others asked for what it had asked for
shown_heard : (lockstep : Bool) (s : Script) (q : ℕ) (made : List Entry) (pass pass' : Pass) (root : ViewRoot) (a : LooperState) → PassHasHeard pass pass' → IsShown lockstep s q made pass root a → IsShown lockstep s q made pass' root a
shown_heard lockstep s q made pass pass' root a heard st = record { calls = st.calls; asked = ap (λ (es : List FrameEntry). map (as_told lockstep) (asks_in es)) heard.same.own ∙ st.asked; stands = st.stands }

-- a looper stands where it stood, whatever more it has seen of others
stands_heard : {lockstep : Bool} (s : Script) (q k : ℕ) (es es' : List Entry) (acts : List Act) (parts parts' : Parts) (a : LooperState) → IsPrefix es es' → calls_in k es' ≡ calls_in k es
    → PassHasHeard parts.frames parts'.frames → parts'.root ≡ parts.root → parts'.fired.items ≡ parts.fired.items → parts'.awaits ≡ parts.awaits → length parts'.others.items ≡ length parts.others.items
    → ((j : ℕ) (d : Sender) → j < length parts.others.items → own (slice_index_or parts'.others.items j d) ≡ own (slice_index_or parts.others.items j d))
    → StandsBy lockstep s q k es acts parts a → StandsBy lockstep s q k es' acts parts' a
stands_heard {lockstep} s q k es es' acts parts parts' a more calls frames root fired awaits long called st = record {
  led = λ fs begins law.
      subst (λ l. ActsLead s q l fs (first_looper s) acts a) more.1
      (ActsLead-entries s q es fs more.0 (first_looper s) acts a (st.led fs (prefix_trans parts.frames.view.seen parts'.frames.view.seen fs frames.seen begins) law));
  place = let le = prefix_length parts.frames.view.seen parts'.frames.view.seen frames.seen in let was = st.place in omega (arith, le, was);
  last = let has = st.latest_is in last_quietly a.place parts.frames.view.seen parts'.frames.view.seen (frames.same.quiet has.key has.constants has.alone) st.place st.last;
  settled = st.settled;
  latest_is = let was = st.latest_is in record {
    key = was.key;
    constants = frames.same.constants ∙ was.constants;
    alone = subst (λ n. was.key.pulses ≡ Some n) (sym frames.same.number) was.alone;
    has = frames.same.stamp ∙ was.has;
    waits = frames.same.awaits ∙ was.waits;
  };
  awaits_is = awaits ∙ st.awaits_is;
  in_time = λ is sound.
      let was = runs_later s q es more.0 acts parts.frames a (st.in_time is) (subst (IsSoundOn s q) (sym more.1) sound) in
      let has = st.latest_is in
      record {
        up_to = later_quietly (nanos_of (clock (empty_base (sender_count s)) es')) parts.frames.view.seen parts'.frames.view.seen (frames.same.quiet has.key has.constants has.alone)
            (subst (λ (l : List Entry). HasSeenUpTo (nanos_of (clock (empty_base (sender_count s)) l)) parts.frames) more.1 was.up_to);
        pulses = was.pulses;
      };
  played = record {
    shown = subst (λ (v : ViewRoot). IsShown lockstep s q (calls_in k es') parts'.frames v a) (sym root)
        (shown_heard lockstep s q (calls_in k es') parts.frames parts'.frames parts.root a frames (subst (λ l. IsShown lockstep s q l parts.frames parts.root a) (sym calls) st.played.shown));
    elsewhere = λ r j d at lt.
        let was : j < length parts.others.items = subst (λ (n : ℕ). j < n) long lt in
        subst (λ l. AreFor IsSent [] (sent_on r a.sent) l) (sym (called j d was)) (st.played.elsewhere r j d at was);
    fired = fired ∙ st.played.fired;
    counts = ap length fired ∙ st.played.counts;
  };
}

module _ (s : Script) (hall : Hall) (is_hall : IsHall s hall) (l : StageLooper) (is : IsLooper s hall l) (b : StageLooper) (k : LooperKeeps HaveHeard l b) where
  -- a looper that only heard others stands where it stood
  heard_stands : (lockstep : Bool) (a : LooperState) → IsSomeAnd l.parts (λ parts. StandsBy lockstep s l.number l.sender l.looper.held.poster.view.seen l.looper.held.journal.acts parts a)
      → IsSomeAnd b.parts (λ parts. StandsBy lockstep s b.number b.sender b.looper.held.poster.view.seen b.looper.held.journal.acts parts a)
  heard_stands lockstep a come =
      let p = looper_parts s hall is_hall l is in
      let r : LooperRest = record { frames = p.0.frames; root = p.0.root; fired = p.0.fired.items; passed = p.0.passed; awaits = p.0.awaits } in
      let told = k.rest r (ap rest_in p.1) in
      let q = with_rest b.parts told.0 told.1 in
      let rest = sym (same_Some _ _ q.2) in
      let heard = own_kept s hall is_hall l is b k in
      let n : ℕ = l.number in
      let within : n ≤ length p.0.others.items = subst (λ (o : Option Parts). n ≤ length (others_in o)) p.1 (looper_within s hall is_hall l is) in
      let within' : n ≤ length q.0.others.items = subst (λ (o : Option Parts). n ≤ length (others_in o)) q.1 (subst (λ (m : ℕ). m ≤ length (others_in b.parts)) k.number (after_within s hall is_hall l is b k)) in
      let posters : HaveHeard (insert p.0.others.items n l.looper.held.poster) (insert q.0.others.items n b.looper.held.poster) =
      subst (λ (o : Option Parts). HaveHeard (insert (others_in o) n l.looper.held.poster) (insert q.0.others.items n b.looper.held.poster)) p.1
      (subst (λ (o : Option Parts). HaveHeard (posters_of l) (insert (others_in o) n b.looper.held.poster)) q.1 (subst (λ (m : ℕ). HaveHeard (posters_of l) (insert (others_in b.parts) m b.looper.held.poster)) k.number k.posters)) in
      let others = others_called n p.0.others.items q.0.others.items l.looper.held.poster b.looper.held.poster within within' posters in
      let mine : b.looper.held.poster.sender ≡ l.sender = heard.same.sender ∙ is.own in
      let calls : calls_in l.sender b.looper.held.poster.view.seen ≡ calls_in l.sender l.looper.held.poster.view.seen =
      ap (filter (λ e. not (is_disposal e))) (ap (λ (m : ℕ). entries_by m b.looper.held.poster.view.seen) (sym mine) ∙ heard.called ∙ ap (λ (m : ℕ). entries_by m l.looper.held.poster.view.seen) is.own) in
      let before : StandsBy lockstep s n l.sender l.looper.held.poster.view.seen l.looper.held.journal.acts p.0 a = subst (λ (o : Option Parts). IsSomeAnd o (λ parts. StandsBy lockstep s n l.sender l.looper.held.poster.view.seen l.looper.held.journal.acts parts a)) p.1 come in
      let after : StandsBy lockstep s n l.sender b.looper.held.poster.view.seen l.looper.held.journal.acts q.0 a =
      stands_heard s n l.sender l.looper.held.poster.view.seen b.looper.held.poster.view.seen l.looper.held.journal.acts p.0 q.0 a heard.more calls
      (subst (λ (z : LooperRest). PassHasHeard p.0.frames z.frames) rest told.2.frames)
      (subst (λ (z : LooperRest). z.root ≡ p.0.root) rest told.2.root) (subst (λ (z : LooperRest). z.fired ≡ p.0.fired.items) rest told.2.fired) (subst (λ (z : LooperRest). z.awaits ≡ p.0.awaits) rest told.2.awaits) others.0 others.1 before in
      subst (λ (o : Option Parts). IsSomeAnd o (λ parts. StandsBy lockstep s b.number b.sender b.looper.held.poster.view.seen b.looper.held.journal.acts parts a)) (sym q.1)
      (subst (λ (m : ℕ). StandsBy lockstep s m b.sender b.looper.held.poster.view.seen b.looper.held.journal.acts q.0 a) (sym k.number)
      (subst (λ (m : ℕ). StandsBy lockstep s n m b.looper.held.poster.view.seen b.looper.held.journal.acts q.0 a) (sym k.sender)
      (subst (λ (j : Journal). StandsBy lockstep s n l.sender b.looper.held.poster.view.seen j.acts q.0 a) (sym k.beside.journal) after)))

  -- it has come as far, in lockstep and by a clock
  pub heard_come : (a : LooperState) → StandsBetweenRounds s l a → StandsBetweenRounds s b a
  heard_come a come = (heard_stands true a come.0, heard_first come.1)
    where
      heard_first : TellsPulsesFirst l.dispatched l.looper.held.journal.acts → TellsPulsesFirst b.dispatched b.looper.held.journal.acts
      heard_first first = subst (λ (n : ℕ). TellsPulsesFirst n b.looper.held.journal.acts) (sym k.dispatched) (subst (λ (j : Journal). TellsPulsesFirst l.dispatched j.acts) (sym k.beside.journal) first)

  pub heard_come_by : (a : LooperState) → StandsBetweenLoops s l a → StandsBetweenLoops s b a
  heard_come_by a come = heard_stands false a come

-- the entries that were seen of the looper's calls are as many as the state tells
module _ (s : Script) (st : Stage) (is : IsStage s st) (same : HaveSeenTheSame st) (k : ℕ) (l : StageLooper) (lt : k < length st.loopers.items) (a : LooperState) (come : StandsBetweenRounds s (slice_index_or st.loopers.items k l) a) where
  abbrev looper : StageLooper
  looper = slice_index_or st.loopers.items k l

  -- with the looper's parts, told by its number
  come_parts : (parts : Parts) × (looper.parts ≡ Some parts) × IsPlayed true s k (calls_in (looper_sender s k) looper.looper.held.poster.view.seen) parts a
  come_parts =
      let one = is.loopers.1 k l lt in
      let p = looper_parts s st.hall is.hall looper one.0 in
      let stands = subst (λ (o : Option Parts). IsSomeAnd o (λ parts. StandsBy true s looper.number looper.sender looper.looper.held.poster.view.seen looper.looper.held.journal.acts parts a)) p.1 come.0 in (
        p.0,
        p.1,
        subst (λ (m : ℕ). IsPlayed true s m (calls_in (looper_sender s m) looper.looper.held.poster.view.seen) p.0 a) one.1
            (subst (λ (m : ℕ). IsPlayed true s looper.number (calls_in m looper.looper.held.poster.view.seen) p.0 a) one.0.sender stands.played),
      )

  pub own_count : (d : Sender) → length (sent_on k a.sent) ≡ length (calls_in (looper_sender s k) (whole_on st.controller k d))
  own_count d = for_count IsSent [] _ _ (subst (λ es. AreFor IsSent [] (sent_on k a.sent) (calls_in (looper_sender s k) es)) (looper_sees s st is same k l d lt) come_parts.2.shown.calls)

  -- the posters of the others stand in order, without the looper's own
  other_at : (r : ℕ) (d : Sender) → r ≢ k → r < length st.controller.kit.posters.items
      → (j : ℕ) × PlaceWithout k r j × (j < length come_parts.0.others.items) × (slice_index_or (posters_of looper) r d ≡ slice_index_or come_parts.0.others.items j d)
  other_at r d apart within =
      let one = is.loopers.1 k l lt in
      let p = come_parts in
      let xs = p.0.others.items in
      let mine = looper.looper.held.poster in
      let le : k ≤ length xs = subst (λ (m : ℕ). m ≤ length xs) one.1 (subst (λ (o : Option Parts). looper.number ≤ length (others_in o)) p.1 (looper_within s st.hall is.hall looper one.0)) in
      let all : posters_of looper ≡ insert xs k mine = ap (λ (m : ℕ). insert (others_in looper.parts) m mine) one.1 ∙ ap (λ (o : Option Parts). insert (others_in o) k mine) p.1 in
      let many : length (insert xs k mine) ≡ length st.controller.kit.posters.items = ap length (sym all) ∙ as_many (posters_of looper) st.controller.kit.posters.items (same.loopers k l lt) in
      let longer = length-insert xs k mine le in
      dite (dec_lt r k)
      (λ below. (r, inl (below, refl), omega (arith, below, le), ap (λ zs. slice_index_or zs r d) all ∙ get_or-insert_below xs k mine d r below le))
      (λ above.
      let m : ℕ = r - 1 in
      let is_next : m + 1 ≡ r = omega (arith, above, apart) in
      let at : k ≤ m = omega (arith, above, apart, is_next) in
      let behind : k < r = omega (arith, at, is_next) in
      (m, inr (behind, sym is_next), omega (arith, longer, many, within, is_next), ap (λ zs. slice_index_or zs r d) all ∙ (ap (λ (i : ℕ). slice_index_or (insert xs k mine) i d) (sym is_next) ∙ get_or-insert_above xs k mine d m at le)))

  pub elsewhere_count : (r : ℕ) (d : Sender) → r ≢ k → r < length st.controller.kit.posters.items → length (sent_on r a.sent) ≡ length (entries_by (looper_sender s k) (whole_on st.controller r d))
  elsewhere_count r d apart within =
      let o = other_at r d apart within in
      for_count IsSent [] _ _ (come_parts.2.elsewhere r o.0 d o.1 o.2) ∙ ap length (sym (looper_entries s st is same k r l d d lt within ∙ ap own o.3))

-- ---- all loopers

-- calls of a looper that made nothing more came at their times still
pub still_on_time : (s : Script) (st st' : Stage) (k : ℕ) (a : LooperState)
    → ((q : ℕ) (d : Sender) → q < length st'.controller.kit.posters.items → q < length st.controller.kit.posters.items)
    → ((q : ℕ) (d : Sender) → q < length st.controller.kit.posters.items → IsPrefix (whole_on st.controller q d) (whole_on st'.controller q d))
    → ((q : ℕ) (d : Sender) → q < length st.controller.kit.posters.items → entries_by (looper_sender s k) (whole_on st'.controller q d) ≡ entries_by (looper_sender s k) (whole_on st.controller q d))
    → AreCallsOnTime s st.controller k a → AreCallsOnTime s st'.controller k a
still_on_time s st st' k a fewer grown none on = record {
  own = λ d lt'.
      let lt = fewer k d lt' in
      let p = grown k d lt in
      let same = befores_called_of_others (looper_sender s k) (whole_on st.controller k d) p.0 (none_behind (looper_sender s k) (whole_on st.controller k d) (whole_on st'.controller k d) p (none k d lt)) in
      ap (λ es. are_on_time (map (λ x. x.timing) (sent_on k a.sent)) (befores_called (looper_sender s k) es)) (sym p.1)
      ∙ (ap (are_on_time (map (λ x. x.timing) (sent_on k a.sent))) same ∙ on.own d lt);
  elsewhere = λ r d apart lt'.
      let lt = fewer r d lt' in
      let p = grown r d lt in
      let more = none_behind (looper_sender s k) (whole_on st.controller r d) (whole_on st'.controller r d) p (none r d lt) in
      ap (λ es. are_on_time (map (λ x. x.timing) (sent_on r a.sent)) (befores (looper_sender s k) es)) (sym p.1)
      ∙ timely_others (looper_sender s k) (map (λ x. x.timing) (sent_on r a.sent)) (whole_on st.controller r d) p.0 more (on.elsewhere r d apart lt);
}

-- from a stage to a later one, in both of which all have seen the same, where the loopers only heard others
module _ (s : Script) (st st' : Stage) (is : IsStage s st) (is' : IsStage s st') (same : HaveSeenTheSame st) (same' : HaveSeenTheSame st')
    (kept : AtEach (LooperKeeps HaveHeard) st.loopers.items st'.loopers.items) (long : length st'.controller.kit.posters.items ≡ length st.controller.kit.posters.items)
    (grown : (q : ℕ) (d : Sender) → q < length st.controller.kit.posters.items → IsPrefix (whole_on st.controller q d) (whole_on st'.controller q d)) where
  -- the histories were such as they may be
  pub sound_before : AreSound s st'.controller → AreSound s st.controller
  sound_before = sound_grown s st.controller st'.controller long grown

  -- each looper has played as far
  pub played_kept : ArePlayed s st → ArePlayed s st'
  played_kept played sound k l lt' =
      let lt : k < length st.loopers.items = subst (λ (n : ℕ). k < n) kept.long lt' in
      let x : StageLooper = slice_index_or st.loopers.items k l in
      let y : StageLooper = slice_index_or st'.loopers.items k l in
      let one = is.loopers.1 k l lt in
      let keeps = kept.each k l lt in
      let t = played (sound_before sound) k l lt in
      let few : k < s.loopers = subst (λ (n : ℕ). k < n) is.loopers.0 lt in
      record {
        state = t.state;
        come = heard_come s st.hall is.hall x one.0 y keeps t.state t.come;
        on_time = subst (λ (n : ℕ). AreCallsOnTime s st'.controller n t.state) (sym (keeps.number ∙ one.1))
            (still_on_time s st st' k t.state (λ q d within. subst (λ (n : ℕ). q < n) long within) grown
            (λ q d within. looper_made_none s st st' is is' same same' kept long q k d within few)
            (subst (λ (n : ℕ). AreCallsOnTime s st.controller n t.state) one.1 t.on_time));
      }
