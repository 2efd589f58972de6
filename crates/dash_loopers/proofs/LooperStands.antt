-- Where a looper stands, as entries and acts are added: entries of others, its look that ends the queue, acts that cause
-- nothing, a pulse, and a dispatch.
use Rattle.std.proofs.Common.{◌≡◌, ℕ, ◌≤◌, Bool, true, false, List, [], ◌∷◌, ◌++◌, length, Option, Some, None, refl, sym, ap, ◌∙◌, subst, arith, append_assoc, eq-eqb}
use Rattle.std.specs.Prelude.{◌==◌, ◌+◌, ◌||◌, not, is_some, nat_le, slice_index_or, drop, ◌&&◌, if◌then◌else◌}
use Rattle.std.specs.List.{AllByRecursion, filter_map, list_any}
use Rattle.std.proofs.lemmas.List.{length-append}
use Rattle.std.proofs.lemmas.List.Elements.{filter_map-append}
use Rattle.std.proofs.Math.Bool.{and-false}
use Rattle.std.specs.Option.{option_map, option_map_or}
use Rattle.std.proofs.lemmas.List.{append-nil}
use Rattle.std.proofs.lemmas.Bool.Decides.{nat_tests}
use Rattle.std.proofs.lemmas.Bool.{and_parts, and_from}
use Rattle.loop_model.specs.declared.post.Post.{Post as PostData}
use Rattle.loop_model.specs.declared.call.Call.TheVariants.{Next}
use Rattle.loop_model.specs.declared.reply.Reply.TheVariants.{Dispatched}
use Rattle.loop_model.specs.declared.entry.Entry.{Entry}
use Rattle.loop_model.specs.declared.journal.Act.{Act}
use Rattle.loop_model.specs.declared.journal.Act.TheVariants.{Dispatch, Idle, Event, Vsync, Paint}
use Rattle.loop_model.specs.declared.base.Base.{Base}
use Rattle.loop_model.specs.Base.{empty_base}
use Rattle.loop_model.specs.Answers.{clock}
use Rattle.loop_model.specs.Legal.{CallFitsTime}
use Rattle.loop_model.proofs.LegalLaws.{IsLegal-last}
use Rattle.choreographer.proofs.InTime.{later_quietly, later_then}
use Rattle.run_model.specs.Loopers.{pulse_stamp}
use Rattle.loop_model.specs.declared.journal.Route.{Route}
use Rattle.frame_phases.specs.declared.entry.FrameEntry.{FrameEntry}
use Rattle.frame_phases.specs.Frames.{is_pulse}
use Rattle.choreographer.specs.Calls.{is_wanted_if_any}
use Rattle.frame_phases.specs.Pulses.{is_pulse_if_any, comes_after, comes_after_if_any}
use Rattle.dash_script.specs.declared.script.Script.{Script}
use Rattle.dash_script.specs.Causes.{phase_count}
use Rattle.dash_script.specs.Reading.{HasText}
use Rattle.looper_run.specs.Tests.{IsTake}
use Rattle.loop_model.proofs.Prefixes.{prefix_trans, prefix_length}
use Rattle.loop_model.specs.Posts.{post_at}
use Rattle.run_model.specs.Control.{At}
use Rattle.run_model.specs.Planned.{Makes, bare_call, token_in, AreFor, sender_count}
use Rattle.run_model.specs.AskedSoFar.{tokens_in}
use Rattle.run_model.specs.Loopers.{LooperState, SentCall, first_looper, starts_frame, after_dispatch, and_takes, dispatched, after_act, MayDispatch, ActsLead, IsSent}
use Rattle.run_model.specs.Parts.{and_starts, running, sent_on, past_before_frame}
use Rattle.run_model.specs.FrameRecords.{is_begin, was_wanted, nanos_of, frame_ids, is_frame_from, has_stamp, place_after, frames_after, FrameAsk}
use Rattle.run_model.proofs.RunLaws.{AreFor-snoc, ActsLead-snoc, ArePaints, ActsLead-paints}
use Rattle.run_model.proofs.Growth.{ActsLead-entries, post_at-grows}
use Rattle.choreographer.specs.Calls.{latest_stamp}
use Rattle.dash_loopers.specs.declared.player.Parts.{Parts}
use Rattle.dash_hall.specs.Growth.{own}
use Rattle.dash_loopers.specs.Players.{PlaceWithout}
use Rattle.dash_loopers.specs.Played.{IsRootOf, calls_in, IsPlayed, MayTellDelivery, Delivers, pulse_acts, looper_pulsed, HasLatest, HasSeenUpTo, HasAllFrames, Pulses, IsAskedAt, StandsBy}
use Rattle.dash_loopers.specs.Loopers.{IsSoundOn, setting_for}
use Rattle.dash_loopers.specs.PlayingLaws.{calls_more, sound_front, clock_front, nanos_rise, runs_later, no_pulse}
use Rattle.dash_loopers.proofs.LooperSteps.{AddsAt, delivers}
use Rattle.dash_loopers.proofs.WantedPulses.{last_quietly, wanted_since_if_any}
use Rattle.dash_loopers.proofs.MoreCalls.{tokens_more, sent_here, sent_else, without_self}

-- ---- the calls of a sender, as entries are added

pub calls_taken : (k n now : ℕ) (es : List Entry) (e : Entry) → IsTake k now n e → calls_in k (es ++ e ∷ []) ≡ calls_in k es ++ e ∷ []
calls_taken k n now es e t =
    let mine : (e.sender == k) ≡ true = eq-eqb e.sender k t.sender_is in
    calls_more k es (e ∷ []) ∙ ap (λ l. calls_in k es ++ l) (let call = t.call in let reply = t.reply in rw (mine, call, reply) refl)

-- a pulse that came
vsynced : (s : Script) (q : ℕ) (es : List Entry) (fs : List FrameEntry) (acts : List Act) (a : LooperState) (stamp : ℕ) → is_pulse s.period stamp ≡ true → comes_after a.stamp stamp ≡ true → a.awaits ≡ false → was_wanted fs a.place stamp ≡ true → a.painted ≡ [] → ActsLead s q es fs (first_looper s) acts a
    → ActsLead s q es fs (first_looper s) (acts ++ Vsync stamp ∷ []) (looper_pulsed q (Some stamp) a)
unfolding after_act
vsynced s q es fs acts a stamp is_one later over wanted settled lead = ActsLead-snoc s q es fs None (first_looper s) acts a (Vsync stamp) lead (refl, record { painted = settled; awaited = over; pulse = is_one; later = later; wanted = wanted })

-- ---- what stays as entries and acts are added that cause nothing

module _ {lockstep : Bool} (s : Script) (q k : ℕ) where
  -- a pulse, or none
  pub stands_pulse : (now : ℕ) (es more : List Entry) (acts acts' : List Act) (parts parts' : Parts) (a : LooperState) → HasText s
      → (p : Pulses s q now (calls_in k es) (calls_in k (es ++ more)) parts parts' acts acts') → StandsBy lockstep s q k es acts parts a → StandsBy lockstep s q k (es ++ more) acts' parts' (looper_pulsed q p.stamp a)
  stands_pulse now es more acts acts' parts parts' a text p st = record {
    led = λ fs begins law.
        subst (λ l. ActsLead s q (es ++ more) fs (first_looper s) l (looper_pulsed q p.stamp a)) (sym p.told)
        (by_stamp fs p.stamp p.next.is_pulse (p.next.later a.stamp a.awaits st.latest_is).0 (p.next.later a.stamp a.awaits st.latest_is).1
        (wanted_since_if_any fs parts'.frames.view.seen a.place p.stamp begins within quietly (let has = st.latest_is in p.next.wanted has.key has.constants has.alone)) (ActsLead-entries s q es fs more (first_looper s) acts a (st.led fs (prefix_trans parts.frames.view.seen parts'.frames.view.seen fs p.grew begins) law)));
    place = (let at : (looper_pulsed q p.stamp a).place ≡ a.place = placed p.stamp in let le = st.place in let longer = prefix_length parts.frames.view.seen parts'.frames.view.seen p.grew in omega (arith, at, le, longer));
    last = subst (λ (n : ℕ). list_any is_begin (drop n parts'.frames.view.seen) ≡ false) (sym (placed p.stamp)) quietly;
    settled = painted p.stamp;
    latest_is = subst (λ (b : Bool). HasLatest parts'.frames (looper_pulsed q p.stamp a).stamp b) (awaited p.stamp) (subst (λ (n : ℕ). HasLatest parts'.frames n (is_some p.stamp || a.awaits)) (came p.stamp) (p.next.got a.stamp a.awaits st.latest_is));
    awaits_is = p.next.waits ∙ (ap (λ (b : Bool). is_some p.stamp || b) st.awaits_is ∙ awaited p.stamp);
    in_time = λ is sound.
        let was = runs_later s q es more acts parts.frames a (st.in_time is) sound in
        let has = st.latest_is in
        record {
          up_to = later_quietly (nanos_of (clock (empty_base (sender_count s)) (es ++ more))) parts.frames.view.seen parts'.frames.view.seen (p.next.quiet has.key has.constants has.alone) was.up_to;
          pulses = ap (λ (l : List Act). length (filter_map pulse_stamp l)) p.told ∙ counted p.stamp (p.next.later a.stamp a.awaits has).1 was.pulses;
        };
    played = p.plays lockstep text a st.played;
  }
    where
      came : (o : Option ℕ) → latest_stamp o a.stamp ≡ (looper_pulsed q o a).stamp
      came None = refl
      came (Some stamp) = refl

      awaited : (o : Option ℕ) → (is_some o || a.awaits) ≡ (looper_pulsed q o a).awaits
      awaited None = refl
      awaited (Some stamp) = refl

      counted : (o : Option ℕ) → (is_some o && a.awaits) ≡ false → length (filter_map pulse_stamp acts) ≡ a.frame_count + (if a.awaits then 1 else 0)
          → length (filter_map pulse_stamp (acts ++ pulse_acts o)) ≡ (looper_pulsed q o a).frame_count + (if (looper_pulsed q o a).awaits then 1 else 0)
      counted None over was = ap (λ (l : List Act). length (filter_map pulse_stamp l)) (append-nil acts) ∙ was
      counted (Some stamp) over was =
          let none = ap (λ (b : Bool). a.frame_count + (if b then 1 else 0)) over in
          let more_stamps = ap length (filter_map-append pulse_stamp acts (Vsync stamp ∷ [])) in
          let long = length-append (filter_map pulse_stamp acts) (stamp ∷ []) in
          omega (arith, was, none, more_stamps, long)

      placed : (o : Option ℕ) → (looper_pulsed q o a).place ≡ a.place
      placed None = refl
      placed (Some stamp) = refl

      painted : (o : Option ℕ) → (looper_pulsed q o a).painted ≡ []
      painted None = st.settled
      painted (Some stamp) = st.settled

      within : a.place ≤ length parts'.frames.view.seen
      within = let le = st.place in let longer = prefix_length parts.frames.view.seen parts'.frames.view.seen p.grew in omega (arith, le, longer)

      quietly : list_any is_begin (drop a.place parts'.frames.view.seen) ≡ false
      quietly = let has = st.latest_is in last_quietly a.place parts.frames.view.seen parts'.frames.view.seen (p.next.quiet has.key has.constants has.alone) st.place st.last

      by_stamp : (fs : List FrameEntry) (o : Option ℕ) → is_pulse_if_any s.period o ≡ true → comes_after_if_any a.stamp o ≡ true → (is_some o && a.awaits) ≡ false → is_wanted_if_any (past_before_frame fs a.place) o ≡ true → ActsLead s q (es ++ more) fs (first_looper s) acts a → ActsLead s q (es ++ more) fs (first_looper s) (acts ++ pulse_acts o) (looper_pulsed q o a)
      by_stamp fs None none later over wanted lead = subst (λ l. ActsLead s q (es ++ more) fs (first_looper s) l a) (sym (append-nil acts)) lead
      by_stamp fs (Some stamp) is_one later over wanted lead = vsynced s q (es ++ more) fs acts a stamp is_one later over wanted st.settled lead

-- ---- a dispatch

-- the state once the message is taken, before what it causes
abbrev pub taken : ℕ → ℕ → ℕ → Option ℕ → PostData → LooperState → LooperState
taken q n now frame m a = and_takes q n now (and_starts q m (running frame a))

-- a pulse whose message is taken has its frame: as many frames as pulses, but for one that is awaited
one_framed : (n count : ℕ) (frame : Option ℕ) (awaits starts : Bool) → n ≡ count + (if awaits then 1 else 0) → (not (is_some frame) || starts) ≡ true
    → (not (is_some frame) || awaits) ≡ true → ((awaits && starts) ≡ true → is_some frame ≡ true)
    → n ≡ frames_after count frame + (if awaits && not starts then 1 else 0)
one_framed n count (Some place) true true is begun awaited runs = omega (arith, is)
one_framed n count (Some place) true false is begun awaited runs = absurd (let wrong : false ≡ true = begun in cc)
one_framed n count (Some place) false starts is begun awaited runs = absurd (let wrong : false ≡ true = awaited in cc)
one_framed n count None true true is begun awaited runs = absurd (let wrong : false ≡ true = runs refl in cc)
one_framed n count None true false is begun awaited runs = is
one_framed n count None false starts is begun awaited runs = is

-- paints are no pulses
no_pulses : (ps : List Act) → ArePaints ps → filter_map pulse_stamp ps ≡ []
no_pulses [] are = refl
no_pulses (Paint g v ∷ ps) are = no_pulses ps are
no_pulses (Dispatch n now route ∷ ps) are = absurd are
no_pulses (Idle i k ∷ ps) are = absurd are
no_pulses (Event f e m ∷ ps) are = absurd are
no_pulses (Vsync v ∷ ps) are = absurd are

paints_no_pulse : (acts ps : List Act) → ArePaints ps → length (filter_map pulse_stamp (acts ++ ps)) ≡ length (filter_map pulse_stamp acts)
paints_no_pulse acts ps are =
    ap length (filter_map-append pulse_stamp acts ps ∙ (ap (λ l. filter_map pulse_stamp acts ++ l) (no_pulses ps are) ∙ append-nil (filter_map pulse_stamp acts)))

-- a frame that begins no earlier than a place begins no earlier than one before it
sooner : (fs : List FrameEntry) (first later : ℕ) (frame : Option ℕ) → first ≤ later → is_frame_from fs later frame ≡ true → is_frame_from fs first frame ≡ true
sooner fs first later None le h = refl
sooner fs first later (Some place) le h = and_from (nat_le first place) _ (no_later first later place le (and_parts (nat_le later place) _ h).0) (and_parts (nat_le later place) _ h).1
  where
    no_later : (a b p : ℕ) → a ≤ b → nat_le b p ≡ true → nat_le a p ≡ true
    no_later a b p le h = grind (arith, nat_tests)

-- the acts lead on by a dispatch, with the paints that it makes before it
leads_dispatch : (s : Script) (q : ℕ) (es : List Entry) (fs : List FrameEntry) (acts ps : List Act) (a : LooperState) (ids : Option (List (List ℕ))) (frame : Option ℕ) (n now : ℕ) (route : Route) (m : PostData)
    → a.painted ≡ [] → ActsLead s q es fs (first_looper s) acts a → post_at es n ≡ Some m → (not (is_some frame) || starts_frame q m) ≡ true → (not (is_some frame) || a.awaits) ≡ true → is_frame_from fs a.place frame ≡ true → has_stamp fs frame a.stamp ≡ true
    → option_map (frame_ids (phase_count s.edition) fs) frame ≡ ids
    → ArePaints ps → (after_dispatch s q now ids m (taken q n now frame m a)).painted ≡ ps
    → ActsLead s q es fs (first_looper s) ((acts ++ ps) ++ Dispatch n now route ∷ []) (record (after_dispatch s q now ids m (taken q n now frame m a)) { painted = [] })
unfolding after_act
leads_dispatch s q es fs acts ps a ids frame n now route m settled lead post starts awaited from stamped are paints painted =
    subst (λ b. ActsLead s q es fs (first_looper s) ((acts ++ ps) ++ Dispatch n now route ∷ []) b) state (ActsLead-snoc s q es fs frame (first_looper s) (acts ++ ps) (record a { painted = ps }) (Dispatch n now route) told may)
  where
    told : ActsLead s q es fs (first_looper s) (acts ++ ps) (record a { painted = ps })
    told = subst (λ l. ActsLead s q es fs (first_looper s) (acts ++ ps) (record a { painted = l ++ ps })) settled (ActsLead-paints s q es fs (first_looper s) acts a ps paints lead)

    causes : dispatched s q fs frame n now (record a { painted = ps }) (post_at es n) ≡ after_dispatch s q now ids m (taken q n now frame m a)
    causes = ap (λ o. dispatched s q fs frame n now (record a { painted = ps }) o) post ∙ ap (λ l. after_dispatch s q now l m (taken q n now frame m a)) are

    state : record (dispatched s q fs frame n now (record a { painted = ps }) (post_at es n)) { painted = [] } ≡ record (after_dispatch s q now ids m (taken q n now frame m a)) { painted = [] }
    state = ap (λ (b : LooperState). record b { painted = [] }) causes

    may : MayDispatch s q es fs frame (record a { painted = ps }) n now
    may = record {
      accepted = ap is_some post;
      starts = subst (λ o. (not (is_some frame) || option_map_or (starts_frame q) o false) ≡ true) (sym post) starts;
      awaited = awaited;
      place = from;
      stamped = stamped;
      painted = ap (λ (b : LooperState). b.painted) causes ∙ painted;
    }

module _ {lockstep : Bool} (s : Script) (q k n now : ℕ) (es : List Entry) (e : Entry) (take : IsTake k now n e) (m : PostData) (parts : Parts) (a : LooperState) (settled : a.painted ≡ []) where
  -- the look that took the message is made
  played_taken : (frame : Option ℕ) → IsPlayed lockstep s q (calls_in k es) parts a → IsPlayed lockstep s q (calls_in k (es ++ e ∷ [])) parts (taken q n now frame m a)
  played_taken frame p = subst (λ l. IsPlayed lockstep s q l parts (taken q n now frame m a)) (sym (calls_taken k n now es e take)) (record {
    shown = record {
      calls = subst (λ l. AreFor IsSent [] l (calls_in k es ++ e ∷ [])) (sym there) (AreFor-snoc IsSent (sent_on q a.sent) look (calls_in k es) e p.shown.calls is_look);
      asked = p.shown.asked;
      stands = subst (λ l. IsRootOf s q l (taken q n now frame m a) parts.root) (sym (tokens_more (calls_in k es) e [] (ap token_in take.reply) ∙ append-nil (tokens_in (calls_in k es)))) (record {
        edition = p.shown.stands.edition;
        gauges = p.shown.stands.gauges;
        lines = p.shown.stands.lines;
        barrier = p.shown.stands.barrier;
        barriers = p.shown.stands.barriers;
        painted = p.shown.stands.painted ∙ settled;
      });
    };
    elsewhere = λ place j d at near.
        subst (λ l. AreFor IsSent [] l (own (slice_index_or parts.others.items j d))) (sym (not_sent place j at)) (p.elsewhere place j d at near);
    fired = p.fired;
    counts = p.counts;
  })
    where
      look : SentCall
      look = record { queue = q; ask = Makes (Next now); reply = Some (Dispatched n); timing = At now }

      there : sent_on q (a.sent ++ look ∷ []) ≡ sent_on q a.sent ++ look ∷ []
      there = sent_here q a.sent look refl

      not_sent : (place j : ℕ) → PlaceWithout q place j → sent_on place (a.sent ++ look ∷ []) ≡ sent_on place a.sent
      not_sent place j at = sent_else place a.sent look (without_self q place j at)

      is_look : IsSent (tokens_in (calls_in k es)) look e
      is_look = record { call = ap bare_call take.call; reply = take.reply }

-- what a delivery made, by the entries behind the look that took the message
pub taken_delivers : (s : Script) (q k k' u : ℕ) (is_moment : ℕ → Bool) (m : PostData) (past es es' more : List Entry) (e : Entry) (acts acts' : List Act) (parts parts' : Parts)
    → k' ≡ k → es ≡ past ++ e ∷ [] → es' ≡ es ++ more → Delivers s q u is_moment m (calls_in k es) (calls_in k' es') parts parts' acts acts'
    → Delivers s q u is_moment m (calls_in k (past ++ e ∷ [])) (calls_in k ((past ++ e ∷ []) ++ more)) parts parts' acts acts'
taken_delivers s q k k' u is_moment m past es es' more e acts acts' parts parts' same seen saw d =
    let whole : es' ≡ (past ++ e ∷ []) ++ more = saw ∙ ap (λ (l : List Entry). l ++ more) seen in
    subst (λ l. Delivers s q u is_moment m l (calls_in k ((past ++ e ∷ []) ++ more)) parts parts' acts acts') (ap (calls_in k) seen)
    (subst (λ l. Delivers s q u is_moment m (calls_in k es) l parts parts' acts acts') (λ i. calls_in (same i) (whole i)) d)

-- a message that was taken at `now` was delivered at `u`, and is told at `now`
module _ (s : Script) (q k n now u : ℕ) (is_moment : ℕ → Bool) (m : PostData) (es more : List Entry) (e : Entry) (take : IsTake k now n e) (acts acts' : List Act)
    (parts parts' : Parts) (d : Delivers s q u is_moment m (calls_in k (es ++ e ∷ [])) (calls_in k ((es ++ e ∷ []) ++ more)) parts parts' acts acts') (a : LooperState) where
  -- what the dispatch leads to
  abbrev pub by_dispatch : LooperState
  by_dispatch = record (after_dispatch s q now d.ids m (taken q n now d.ran.frame m a)) { painted = [] }

  adds : AddsAt now (taken q n now d.ran.frame m a) (after_dispatch s q now d.ids m (taken q n now d.ran.frame m a))
  adds = delivers s q now d.ids m (taken q n now d.ran.frame m a)

  -- its calls come at its moment
  pub sends_dispatch : (more : List SentCall) × (by_dispatch.sent ≡ a.sent ++ more) × AllByRecursion (λ x. x.timing ≡ At now) more
  sends_dispatch = (look ∷ adds.more, adds.sent ∙ append_assoc a.sent (look ∷ []) adds.more, (refl, adds.timed))
    where
      look : SentCall
      look = record { queue = q; ask = Makes (Next now); reply = Some (Dispatched n); timing = At now }

  -- and so does what it asks of its choreographer
  pub asks_dispatch : (asks : List FrameAsk) × (by_dispatch.asked ≡ a.asked ++ asks) × AllByRecursion (IsAskedAt now) asks
  asks_dispatch = (adds.asks, adds.asked, adds.asked_then)

  module _ {lockstep : Bool} (text : HasText s) (may : MayTellDelivery lockstep q m u is_moment now) (st : StandsBy lockstep s q k es acts parts a) where
    done : IsPlayed lockstep s q (calls_in k ((es ++ e ∷ []) ++ more)) parts' by_dispatch
        × (acts' ≡ acts ++ (after_dispatch s q now d.ids m (taken q n now d.ran.frame m a)).painted)
    done = d.plays text lockstep now may (taken q n now d.ran.frame m a) refl (played_taken s q k n now es e take m parts a st.settled d.ran.frame st.played)

    -- what it painted is told
    pub told_dispatch : (painted : List Act) × (acts' ≡ acts ++ painted) × ArePaints painted
    told_dispatch = ((after_dispatch s q now d.ids m (taken q n now d.ran.frame m a)).painted, done.1, adds.paints tt)

    pub stands_dispatch : (route : Route) → post_at es n ≡ Some m
        → StandsBy lockstep s q k ((es ++ e ∷ []) ++ more) (acts' ++ Dispatch n now route ∷ []) parts' by_dispatch
    stands_dispatch route post = record {
      led = λ fs begins law.
          let framed = d.ran.framed fs begins law in
          let before = prefix_trans parts.frames.view.seen parts'.frames.view.seen fs d.ran.grew begins in
          subst (λ l. ActsLead s q ((es ++ e ∷ []) ++ more) fs (first_looper s) (l ++ Dispatch n now route ∷ []) by_dispatch) (sym done.1)
          (leads_dispatch s q ((es ++ e ∷ []) ++ more) fs acts _ a d.ids d.ran.frame n now route m st.settled
          (ActsLead-entries s q (es ++ e ∷ []) fs more (first_looper s) acts a (ActsLead-entries s q es fs (e ∷ []) (first_looper s) acts a (st.led fs before law)))
          posts d.starts (ap (λ (b : Bool). not (is_some d.ran.frame) || b) (sym st.awaits_is) ∙ d.awaited)
          (sooner fs a.place (length parts.frames.view.seen) d.ran.frame st.place framed.0) (d.ran.stamped a.stamp a.awaits st.latest_is fs begins) framed.1 (adds.paints tt) refl);
      place = (let at = adds.place in let le = st.place in let longer = prefix_length parts.frames.view.seen parts'.frames.view.seen d.ran.grew in placed d.ran.frame by_dispatch.place at le longer d.ran.within);
      last = (let has = st.latest_is in subst (λ (n : ℕ). list_any is_begin (drop n parts'.frames.view.seen) ≡ false) (sym adds.place) (d.ran.last has.key has.constants has.alone a.place st.place st.last));
      settled = refl;
      latest_is = subst (λ (b : Bool). HasLatest parts'.frames by_dispatch.stamp b) awaited (subst (λ (n : ℕ). HasLatest parts'.frames n parts'.awaits) (sym adds.stamp) known);
      awaits_is = awaited;
      in_time = runs;
      played = done.0;
    }
      where
        awaited : parts'.awaits ≡ by_dispatch.awaits
        awaited = d.waits.waits ∙ (ap (λ (b : Bool). b && not (starts_frame q m)) st.awaits_is ∙ sym adds.awaits)

        known : HasLatest parts'.frames a.stamp parts'.awaits
        known = d.waits.latest a.stamp (subst (HasLatest parts.frames a.stamp) (sym st.awaits_is) st.latest_is)

        -- in lockstep a frame begins at the queue's time, which is no earlier than all that the pass has seen
        runs : lockstep ≡ true → IsSoundOn s q ((es ++ e ∷ []) ++ more) → HasAllFrames s ((es ++ e ∷ []) ++ more) (acts' ++ Dispatch n now route ∷ []) parts'.frames by_dispatch
        runs is sound =
            let b : Base = empty_base (sender_count s) in
            let once : IsSoundOn s q (es ++ e ∷ []) = sound_front s q (es ++ e ∷ []) more sound in
            let was = st.in_time is (sound_front s q es (e ∷ []) once) in
            let timed : now ≡ clock b es = subst (CallFitsTime true (clock b es)) take.call (IsLegal-last (setting_for s q) b es e once.legal).timely in
            let here = d.ran.in_time (nanos_of now) a.stamp a.awaits (may.frame is) st.latest_is (subst (λ (t : ℕ). HasSeenUpTo (nanos_of t) parts.frames) (sym timed) was.up_to) in
            let early = clock_front b es (e ∷ []) in
            let late = clock_front b (es ++ e ∷ []) more in
            let begins : (a.awaits && starts_frame q m) ≡ true → is_some d.ran.frame ≡ true = λ both. (let p = and_parts a.awaits (starts_frame q m) both in
            let over : parts'.awaits ≡ false = d.waits.waits ∙ (ap (λ (t : Bool). parts.awaits && not t) p.1 ∙ and-false parts.awaits) in
            here.1 p.0 (subst (HasLatest parts'.frames a.stamp) over known)) in
            let framed = one_framed (length (filter_map pulse_stamp acts)) a.frame_count d.ran.frame a.awaits (starts_frame q m) was.pulses d.starts (ap (λ (t : Bool). not (is_some d.ran.frame) || t) (sym st.awaits_is) ∙ d.awaited) begins in
            record {
              up_to = later_then (nanos_of now) (nanos_of (clock b ((es ++ e ∷ []) ++ more))) parts'.frames.view.seen (nanos_rise now (clock b ((es ++ e ∷ []) ++ more)) (omega (arith, timed, early, late))) here.0;
              pulses = no_pulse acts' (Dispatch n now route) refl
                  ∙ (ap (λ (l : List Act). length (filter_map pulse_stamp l)) done.1 ∙ (paints_no_pulse acts _ (adds.paints tt)
                  ∙ (framed ∙ (λ i. sym adds.frames i + (if sym adds.awaits i then 1 else 0)))));
            }

        once : post_at (es ++ e ∷ []) n ≡ Some m
        once = post_at-grows es (e ∷ []) n (ap is_some post) ∙ post

        posts : post_at ((es ++ e ∷ []) ++ more) n ≡ Some m
        posts = post_at-grows (es ++ e ∷ []) more n (ap is_some once) ∙ once

        placed : (frame : Option ℕ) (p : ℕ) → p ≡ place_after a.place frame → a.place ≤ length parts.frames.view.seen → length parts.frames.view.seen ≤ length parts'.frames.view.seen → place_after 0 frame ≤ length parts'.frames.view.seen → p ≤ length parts'.frames.view.seen
        placed None p at le longer within = omega (arith, at, le, longer)
        placed (Some place) p at le longer within = omega (arith, at, within)
