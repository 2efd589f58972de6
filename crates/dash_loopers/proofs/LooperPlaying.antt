-- In a round a looper goes on from where it stood: what keeps that it has, and what a round leaves of it.
use Rattle.std.proofs.Common.{◌≡◌, ℕ, ◌<◌, ◌≤◌, ◌⊎◌, inl, max, eqb-true, true, false, List, [], ◌∷◌, ◌++◌, Option, Some, None, refl, sym, ap, ◌∙◌, subst, arith, append_assoc}
use Rattle.std.specs.Prelude.{◌==◌, Bool, Result, Ok, Err, is_ok, OnOk, is_some, not, ◌&&◌}
use Rattle.std.specs.List.{AllByRecursion, Contains}
use Rattle.std.specs.Option.{IsSomeAnd}
use Rattle.std.proofs.lemmas.List.{append-nil}
use Rattle.std.proofs.lemmas.List.Elements.{All-cons, All-nil, Contains-append_left, Contains-push}
use Rattle.loop_model.specs.declared.post.Post.{Post as PostData}
use Rattle.loop_model.specs.declared.call.Call.TheVariants.{Next}
use Rattle.loop_model.specs.declared.entry.Entry.{Entry}
use Rattle.loop_model.specs.declared.journal.Act.{Act}
use Rattle.loop_model.specs.declared.journal.Act.TheVariants.{Dispatch}
use Rattle.loop_model.specs.declared.journal.Route.{Route}
use Rattle.loop_model.proofs.WellFormedLaws.{All_indexed}
use Rattle.loop_model.proofs.Sorting.{AllByRecursion-weaker}
use Rattle.message_slot.specs.Letter.{number_in, post_of}
use Rattle.message_pool.specs.Passes.{Node}
use Rattle.dash_script.specs.declared.script.Script.{Script}
use Rattle.looper_run.specs.Holding.{Holding}
use Rattle.loop_model.specs.Posts.{post_at}
use Rattle.looper_run.specs.Tests.{Passes, PassesWith, IsLent, IsTake, HasTakenMessage, Unless, Intercepts}
use Rattle.looper_run.specs.declared.dispatcher.Did.{Did}
use Rattle.looper_run.specs.declared.dispatcher.Did.TheVariants.{Yes, No, NoMemory}
use Rattle.run_model.specs.Control.{At}
use Rattle.run_model.specs.FrameRecords.{nanos_of, FrameAsk}
use Rattle.run_model.specs.Loopers.{LooperState, SentCall, starts_frame}
use Rattle.dash_loopers.specs.declared.player.Parts.{Parts}
use Rattle.dash_loopers.specs.declared.looper.StageLooper.{StageLooper}
use Rattle.dash_loopers.specs.Played.{calls_in, calls_of, MayTellDelivery, Delivers, looper_pulsed, StandsBy, IsTimedBy, IsAskedAt, IsAskedBy, GoesOnTo, ComesTo, IsPlaying, HasPlayed}
use Rattle.dash_loopers.specs.PlayingLaws.{goes_nowhere, comes_on}
use Rattle.dash_loopers.specs.PulsesFirst.{TellsPulsesFirst}
use Rattle.dash_loopers.proofs.PulsesOnTime.{ComesThen, PulsesThen}
use Rattle.dash_loopers.proofs.FirstPulses.{first_pulsed, first_dispatched}
use Rattle.dash_loopers.proofs.LooperStands.{stands_pulse, by_dispatch, told_dispatch, sends_dispatch, asks_dispatch, taken_delivers, stands_dispatch}
use Rattle.dash_loopers.proofs.PlaySteps.{still_delivered}
use Rattle.std.proofs.Math.Bool.{and-false}
use Rattle.run_model.specs.Planned.{frame_handler}

-- ---- calls more, and looks more

goes_one : (q k : ℕ) (looks : List Entry) (now : ℕ) (a b : LooperState) (x : SentCall) → b.sent ≡ a.sent ++ x ∷ [] → b.asked ≡ a.asked
    → IsTimedBy q k looks now x.queue x.timing → GoesOnTo q k looks now a b
goes_one q k looks now a b x sent asked timed = record {
  more = x ∷ [];
  sent = sent;
  timed = All-cons (λ y. IsTimedBy q k looks now y.queue y.timing) x [] timed (All-nil (λ y. IsTimedBy q k looks now y.queue y.timing));
  asks = [];
  asked = asked ∙ sym (append-nil a.asked);
  asked_then = All-nil (IsAskedBy k looks);
}

-- a pulse that came comes now
goes_pulsed : (k q : ℕ) (looks : List Entry) (now : ℕ) (stamp : Option ℕ) (a : LooperState) → ComesThen now stamp → GoesOnTo q k looks now a (looper_pulsed q stamp a)
goes_pulsed k q looks now None a is = goes_nowhere q k looks now a
goes_pulsed k q looks now (Some stamp) a is = goes_one q k looks now a (looper_pulsed q (Some stamp) a) _ refl refl (is, refl)

-- calls and asks at the moment of a look
goes_looked : (q k : ℕ) (looks : List Entry) (now time : ℕ) (e : Entry) (a b : LooperState) → Contains looks e → e.sender ≡ k → e.call ≡ Next time
    → (more : List SentCall) × (b.sent ≡ a.sent ++ more) × AllByRecursion (λ x. x.timing ≡ At time) more
    → (asks : List FrameAsk) × (b.asked ≡ a.asked ++ asks) × AllByRecursion (IsAskedAt time) asks → GoesOnTo q k looks now a b
goes_looked q k looks now time e a b among sender call m p = record {
  more = m.0;
  sent = m.1;
  timed = All_indexed (λ x. IsTimedBy q k looks now x.queue x.timing) m.0
      (AllByRecursion-weaker (λ x. x.timing ≡ At time) (λ x. IsTimedBy q k looks now x.queue x.timing) (λ x is. subst (IsTimedBy q k looks now x.queue) (sym is) (e, among, sender, call)) m.0 m.2);
  asks = p.0;
  asked = p.1;
  asked_then = All_indexed (IsAskedBy k looks) p.0
      (AllByRecursion-weaker (IsAskedAt time) (IsAskedBy k looks) (λ x is. (time, (e, among, sender, call), is)) p.0 p.2);
}

-- in lockstep a delivery at a moment is told at that moment
in_lockstep : (q time : ℕ) (m : PostData) → MayTellDelivery true q m time (λ n. n == nanos_of time) time
in_lockstep q time m = record { rules = λ is. refl; time = λ is. refl; frame = λ is n passes. eqb-true n (nanos_of time) passes }

module _ (s : Script) (q now : ℕ) (began : StageLooper) where
  -- a pulse was delivered now and told, or none came
  pulsed_on : (d k k' : ℕ) (es es' more : List Entry) (acts acts' : List Act) (parts parts' : Parts) → (d < now) ⊎ (acts' ≡ acts) → k' ≡ k → es' ≡ es ++ more → PulsesThen s q now (calls_in k es) (calls_in k' es') parts parts' acts acts'
      → IsPlaying s q now began d k es acts parts → IsPlaying s q now began d k' es' acts' parts'
  pulsed_on d k k' es es' more acts acts' parts parts' early same saw p meets =
      let at : PulsesThen s q now (calls_in k es) (calls_in k (es ++ more)) parts parts' acts acts' = subst (λ l. PulsesThen s q now (calls_in k es) l parts parts' acts acts') (λ i. calls_in (same i) (saw i)) p in
      let here = at.0 in
      subst (λ (n : ℕ). IsPlaying s q now began d n es' acts' parts') (sym same) (subst (λ (l : List Entry). IsPlaying s q now began d k l acts' parts') (sym saw) (λ text a come.
      (let c = meets text a come in
      let comes = at.1 c.stands.latest_is.key c.stands.latest_is.constants c.stands.latest_is.alone in
      comes_on s q now a d d k began.looper.held.poster.view.seen es more acts acts' parts parts' c (looper_pulsed q here.stamp c.state) (first_pulsed d now here.stamp acts acts' early here.told comes c.first) (stands_pulse s q k now es more acts acts' parts parts' c.state text here c.stands) (goes_pulsed k q more now here.stamp c.state comes))))

  pub playing_pulse : (d : ℕ) (before after : Holding) (parts parts' : Parts) → (d < now) ⊎ (after.journal.acts ≡ before.journal.acts) → IsLent before after → PulsesThen s q now (calls_of before.poster) (calls_of after.poster) parts parts' before.journal.acts after.journal.acts
      → Passes (λ k es acts. IsPlaying s q now began d k es acts parts) before → Passes (λ k es acts. IsPlaying s q now began d k es acts parts') after
  playing_pulse d before after parts parts' early lent p meets =
      pulsed_on d before.poster.sender after.poster.sender before.poster.view.seen after.poster.view.seen lent.more before.journal.acts after.journal.acts parts parts' early lent.same.sender lent.seen p meets

  -- a message that was taken is dispatched
  dispatched_on : (kept kept' k k' n time : ℕ) (m : PostData) (past es es' more : List Entry) (e : Entry) (acts acts' : List Act) (route : Route) (parts parts' : Parts) → kept ≤ kept' → time ≤ kept' → k' ≡ k → es ≡ past ++ e ∷ [] → es' ≡ es ++ more
      → IsTake k time n e → post_at past n ≡ Some m → Delivers s q time (λ x. x == nanos_of time) m (calls_in k es) (calls_in k' es') parts parts' acts acts'
      → IsPlaying s q now began kept k past acts parts → IsPlaying s q now began kept' k' es' (acts' ++ Dispatch n time route ∷ []) parts'
  dispatched_on kept kept' k k' n time m past es es' more e acts acts' route parts parts' rises within same seen saw take post d meets =
      let whole : es' ≡ (past ++ e ∷ []) ++ more = saw ∙ ap (λ (l : List Entry). l ++ more) seen in
      let here = taken_delivers s q k k' time (λ x. x == nanos_of time) m past es es' more e acts acts' parts parts' same seen saw d in
      subst (λ (j : ℕ). IsPlaying s q now began kept' j es' (acts' ++ Dispatch n time route ∷ []) parts') (sym same)
      (subst (λ (l : List Entry). IsPlaying s q now began kept' k l (acts' ++ Dispatch n time route ∷ []) parts') (sym (whole ∙ append_assoc past (e ∷ []) more)) (λ text a come.
      (let c = meets text a come in
      let may = in_lockstep q time m in
      let done = told_dispatch s q k n time time (λ x. x == nanos_of time) m past more e take acts acts' parts parts' here c.state text may c.stands in
      comes_on s q now a kept kept' k began.looper.held.poster.view.seen past (e ∷ more) acts (acts' ++ Dispatch n time route ∷ []) parts parts' c (by_dispatch s q k n time time (λ x. x == nanos_of time) m past more e take acts acts' parts parts' here c.state)
      (first_dispatched kept kept' n time route acts acts' done.0 rises within done.1 done.2 c.first)
      (subst (λ (l : List Entry). StandsBy true s q k l (acts' ++ Dispatch n time route ∷ []) parts' (by_dispatch s q k n time time (λ x. x == nanos_of time) m past more e take acts acts' parts parts' here c.state)) (append_assoc past (e ∷ []) more)
      (stands_dispatch s q k n time time (λ x. x == nanos_of time) m past more e take acts acts' parts parts' here c.state text may c.stands route post))
      (goes_looked q k (e ∷ more) now time e c.state _ (Contains-append_left (e ∷ []) more e (Contains-push [] e)) take.sender_is take.call (sends_dispatch s q k n time time (λ x. x == nanos_of time) m past more e take acts acts' parts parts' here c.state)
      (asks_dispatch s q k n time time (λ x. x == nanos_of time) m past more e take acts acts' parts parts' here c.state)))))

  pub playing_dispatch : (kept kept' time : ℕ) (node : Node) (route : Route) (before after : Holding) (parts parts' : Parts) → kept ≤ kept' → time ≤ kept' → IsLent before after
      → HasTakenMessage (λ k es acts. IsPlaying s q now began kept k es acts parts) before node time
      → Delivers s q time (λ x. x == nanos_of time) (post_of node.item) (calls_of before.poster) (calls_of after.poster) parts parts' before.journal.acts after.journal.acts
      → PassesWith (λ k es acts. IsPlaying s q now began kept' k es acts parts') after node time route
  playing_dispatch kept kept' time node route before after parts parts' rises within lent t d =
      dispatched_on kept kept' before.poster.sender after.poster.sender (number_in node.item) time (post_of node.item) t.past before.poster.view.seen after.poster.view.seen lent.more t.take before.journal.acts after.journal.acts route parts parts' rises within lent.same.sender t.seen lent.seen t.is_take t.post d t.passes

  -- a message with a callback causes nothing
  pub delivers_none : (time : ℕ) (is_moment : ℕ → Bool) (m : PostData) (id : ℕ) (made : List Entry) (parts : Parts) (acts : List Act) → m.callback ≡ Some id → Delivers s q time is_moment m made made parts parts acts acts
  delivers_none time is_moment m id made parts acts callback =
      still_delivered s q time is_moment m made made parts parts acts acts (λ at a. a) refl refl quiet (λ at a. rw callback refl) (λ at a. refl) (λ text lockstep at may a is. is) refl
    where
      quiet : (parts.awaits && starts_frame q m) ≡ false
      quiet = ap (λ (o : Option ℕ). parts.awaits && (not (is_some o) && m.handler == frame_handler q && m.what == 0)) callback ∙ and-false parts.awaits

-- how a call was told that went well, or found no memory
pub did_well : {A E : Type 0} (r : Result A E) (d : Did) (P : Type 0) → (d ≡ No → ⊥) → (d ≡ Yes → is_ok r ≡ true) → OnOk r P → Unless d P
did_well (Ok x) d P never well h = holds d h
  where
    holds : (d : Did) → P → Unless d P
    holds Yes h = h
    holds No h = h
    holds NoMemory h = tt
did_well (Err e) Yes P never well h = absurd (let wrong : false ≡ true = well refl in cc)
did_well (Err e) No P never well h = absurd (never refl)
did_well (Err e) NoMemory P never well h = tt

-- the same where the message was to be intercepted
pub intercepted : (d : Did) (P Q : Type 0) → (d ≡ No → ⊥) → Unless d P → Intercepts d P Q
intercepted Yes P Q never h = h
intercepted No P Q never h = absurd (never refl)
intercepted NoMemory P Q never h = tt

module _ (s : Script) (q now : ℕ) (began : StageLooper) where
  -- a pulse was delivered, or none came, unless memory ran out
  pub pulse_or_none : (kept : ℕ) (d : Did) (before after : Holding) (parts parts' : Parts) → kept < now → IsLent before after → Unless d (PulsesThen s q now (calls_of before.poster) (calls_of after.poster) parts parts' before.journal.acts after.journal.acts)
      → Passes (λ k es acts. IsPlaying s q now began kept k es acts parts) before → Unless d (Passes (λ k es acts. IsPlaying s q now began kept k es acts parts') after)
  pulse_or_none kept Yes before after parts parts' early lent p meets = playing_pulse s q now began kept before after parts parts' (inl early) lent p meets
  pulse_or_none kept No before after parts parts' early lent p meets = playing_pulse s q now began kept before after parts parts' (inl early) lent p meets
  pulse_or_none kept NoMemory before after parts parts' early lent p meets = tt

  -- a message was dispatched, unless memory ran out
  pub dispatches_well : {A E : Type 0} (kept kept' time : ℕ) (node : Node) (route : Route) (m : PostData) (r : Result A E) (d : Did) (before after : Holding) (parts parts' : Parts) → kept' ≡ max kept time → m ≡ post_of node.item → IsLent before after
      → HasTakenMessage (λ k es acts. IsPlaying s q now began kept k es acts parts) before node time
      → OnOk r (Delivers s q time (λ x. x == nanos_of time) m (calls_of before.poster) (calls_of after.poster) parts parts' before.journal.acts after.journal.acts)
      → (d ≡ No → ⊥) → (d ≡ Yes → is_ok r ≡ true)
      → Unless d (PassesWith (λ k es acts. IsPlaying s q now began kept' k es acts parts') after node time route)
  dispatches_well kept kept' time node route m r d before after parts parts' rises is lent t done never well = did_well r d _ never well (by_end r done)
    where
      by_end : {A E : Type 0} (r : Result A E) → OnOk r (Delivers s q time (λ x. x == nanos_of time) m (calls_of before.poster) (calls_of after.poster) parts parts' before.journal.acts after.journal.acts) → OnOk r (PassesWith (λ k es acts. IsPlaying s q now began kept' k es acts parts') after node time route)
      by_end (Ok x) h = playing_dispatch s q now began kept kept' time node route before after parts parts' (omega (arith, rises)) (omega (arith, rises)) lent t (subst (λ (p : PostData). Delivers s q time (λ x. x == nanos_of time) p (calls_of before.poster) (calls_of after.poster) parts parts' before.journal.acts after.journal.acts) is h)
      by_end (Err e) h = tt

-- ---- who begins, and who does nothing

-- a looper goes on nowhere from where it stands
comes_nowhere : (s : Script) (q now d k : ℕ) (es : List Entry) (acts : List Act) (parts : Parts) (a : LooperState) → StandsBy true s q k es acts parts a → TellsPulsesFirst d acts → ComesTo s q now a d k es es acts parts
comes_nowhere s q now d k es acts parts a stands first = record { state = a; stands = stands; looks = []; saw = sym (append-nil es); on = goes_nowhere q k [] now a; first = first }

-- one that did nothing has played
pub plays_nothing : (s : Script) (now : ℕ) (l : StageLooper) → HasPlayed s now l l
plays_nothing s now l going text a come = by_parts l.parts come.0
  where
    by_parts : (o : Option Parts) → IsSomeAnd o (λ p. StandsBy true s l.number l.sender l.looper.held.poster.view.seen l.looper.held.journal.acts p a)
        → IsSomeAnd o (ComesTo s l.number now a l.dispatched l.sender l.looper.held.poster.view.seen l.looper.held.poster.view.seen l.looper.held.journal.acts)
    by_parts None h = absurd h
    by_parts (Some p) h = comes_nowhere s l.number now l.dispatched l.sender l.looper.held.poster.view.seen l.looper.held.journal.acts p a h come.1

-- as a round begins it plays
pub plays_first : (s : Script) (now k : ℕ) (began l : StageLooper) (parts : Parts) → began ≡ l → k ≡ l.sender → l.parts ≡ Some parts
    → IsPlaying s l.number now began l.dispatched k l.looper.held.poster.view.seen l.looper.held.journal.acts parts
plays_first s now k began l parts is mine has = subst (λ (b : StageLooper). IsPlaying s l.number now b l.dispatched k l.looper.held.poster.view.seen l.looper.held.journal.acts parts) (sym is)
    (subst (λ (n : ℕ). IsPlaying s l.number now l l.dispatched n l.looper.held.poster.view.seen l.looper.held.journal.acts parts) (sym mine)
    (λ text a come. comes_nowhere s l.number now l.dispatched l.sender l.looper.held.poster.view.seen l.looper.held.journal.acts parts a
    (subst (λ (o : Option Parts). IsSomeAnd o (λ p. StandsBy true s l.number l.sender l.looper.held.poster.view.seen l.looper.held.journal.acts p a)) has come.0) come.1))
