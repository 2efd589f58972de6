-- What a looper has come to stays so by what it doesn't do itself: another sender's entry, its look that ends the queue, an idle
-- handler or an event. These are the laws of its code, with their proofs.
use Rattle.std.proofs.Common.{◌≡◌, ℕ, ◌≤◌, max, Bool, true, false, List, [], ◌∷◌, ◌++◌, length, None, refl, sym, ap, ◌∙◌, subst, arith}
use Rattle.std.proofs.Common.{append_assoc, eq-eqb, ne_eqb}
use Rattle.std.specs.Prelude.{◌==◌, not, filter, fold}
use Rattle.std.specs.List.{filter_map, cons_option}
use Rattle.std.proofs.lemmas.List.{append-nil}
use Rattle.std.proofs.lemmas.List.Elements.{All-append, All-nil, Contains-append_left, Contains-append_right, filter-append, filter_map-append}
use Rattle.std.proofs.lemmas.List.Sums.{fold-append}
use Rattle.loop_model.specs.declared.base.Base.{Base}
use Rattle.loop_model.specs.Base.{empty_base}
use Rattle.loop_model.specs.Answers.{clock}
use Rattle.loop_model.specs.Entries.{moment_of}
use Rattle.loop_model.proofs.LegalLaws.{IsLegal-front}
use Rattle.loop_model.proofs.NumberLaws.{AreNumbered-front}
use Rattle.loop_model.specs.declared.call.Call.TheVariants.{Next}
use Rattle.loop_model.specs.declared.reply.Reply.TheVariants.{Disposed}
use Rattle.loop_model.specs.declared.entry.Entry.{Entry}
use Rattle.loop_model.specs.declared.journal.Act.{Act}
use Rattle.loop_model.specs.declared.journal.Act.TheVariants.{Dispatch, Idle, Event, Vsync, Paint}
use Rattle.dash_script.specs.declared.script.Script.{Script}
use Rattle.looper_run.specs.Acts.{IsQuietAct}
use Rattle.run_model.specs.Planned.{entries_by, sender_count}
use Rattle.run_model.specs.Control.{Timing, At, InBlock, Exactly, AnyTime}
use Rattle.run_model.specs.FrameRecords.{FrameAsk, nanos_of}
use Rattle.run_model.specs.Loopers.{LooperState, first_looper, after_act, pulse_stamp}
use Rattle.choreographer.specs.Known.{Pass}
use Rattle.choreographer.proofs.InTime.{later_then}
use Rattle.run_model.proofs.RunLaws.{ActsLead-snoc}
use Rattle.run_model.proofs.Growth.{ActsLead-entries}
use Rattle.dash_loopers.specs.declared.player.Parts.{Parts}
use Rattle.dash_loopers.specs.declared.looper.StageLooper.{StageLooper}
use Rattle.dash_loopers.specs.PulsesFirst.{TellsPulsesFirst, tells_quiet}
use Rattle.dash_loopers.specs.Played.{calls_in, IsPlayed, StandsBy, IsTimedBy, HasLookedAt, IsAskedBy, GoesOnTo, ComesTo, IsPlaying, IsPlayingBy, HasAllFrames}
use Rattle.dash_loopers.specs.Loopers.{IsSoundOn, setting_for, is_disposal}

-- ---- the calls of a sender, as entries are added

abbrev pub is_call : Entry → Bool
is_call e = not (is_disposal e)

pub calls_more : (k : ℕ) (es more : List Entry) → calls_in k (es ++ more) ≡ calls_in k es ++ calls_in k more
calls_more k es more = ap (filter is_call) (filter-append (λ e. e.sender == k) es more) ∙ filter-append is_call (entries_by k es) (entries_by k more)

none_more : (k : ℕ) (es more : List Entry) → calls_in k more ≡ [] → calls_in k (es ++ more) ≡ calls_in k es
none_more k es more none = calls_more k es more ∙ (ap (λ l. calls_in k es ++ l) none ∙ append-nil (calls_in k es))

pub calls_others : (k : ℕ) (es : List Entry) (e : Entry) → (e.sender ≡ k → ⊥) → calls_in k (es ++ e ∷ []) ≡ calls_in k es
calls_others k es e apart =
    let other : (e.sender == k) ≡ false = ne_eqb e.sender k apart in
    none_more k es (e ∷ []) (rw other refl)

pub calls_disposed : (k : ℕ) (es : List Entry) (e : Entry) (now : ℕ) → e.sender ≡ k → e.call ≡ Next now → e.reply ≡ Disposed
    → calls_in k (es ++ e ∷ []) ≡ calls_in k es
calls_disposed k es e now is call reply =
    let mine : (e.sender == k) ≡ true = eq-eqb e.sender k is in
    none_more k es (e ∷ []) (rw (mine, call, reply) refl)

-- ---- what was run in time, as entries and acts are added

-- a sound history's beginning is sound
pub sound_front : (s : Script) (q : ℕ) (es more : List Entry) → IsSoundOn s q (es ++ more) → IsSoundOn s q es
sound_front s q es more sound = record {
  legal = IsLegal-front (setting_for s q) (empty_base (sender_count s)) es more sound.legal;
  numbered = AreNumbered-front (setting_for s q) (empty_base (sender_count s)) es more sound.numbered;
}

-- its time is no later than that of the whole
most : (t : ℕ) (es : List Entry) → t ≤ fold (λ time (e : Entry). max time (moment_of e.call)) t es
most t [] = omega arith
most t (e ∷ es) = let rest = most (max t (moment_of e.call)) es in omega (arith, rest)

pub clock_front : (b : Base) (es more : List Entry) → clock b es ≤ clock b (es ++ more)
unfolding clock
clock_front b es more =
    let whole = fold-append (λ time (e : Entry). max time (moment_of e.call)) b.time es more in
    let rest = most (fold (λ time (e : Entry). max time (moment_of e.call)) b.time es) more in
    omega (arith, whole, rest)

pub nanos_rise : (a b : ℕ) → a ≤ b → nanos_of a ≤ nanos_of b
nanos_rise a b le = omega (arith, le)

-- more entries
pub runs_later : (s : Script) (q : ℕ) (es more : List Entry) (acts : List Act) (p : Pass) (a : LooperState)
    → (IsSoundOn s q es → HasAllFrames s es acts p a) → IsSoundOn s q (es ++ more) → HasAllFrames s (es ++ more) acts p a
runs_later s q es more acts p a ran sound =
    let was = ran (sound_front s q es more sound) in
    let b : Base = empty_base (sender_count s) in
    let rises = nanos_rise (clock b es) (clock b (es ++ more)) (clock_front b es more) in
    record {
      up_to = later_then (nanos_of (clock b es)) (nanos_of (clock b (es ++ more))) p.view.seen rises was.up_to;
      pulses = was.pulses;
    }

-- an act that is no pulse
pub no_pulse : (acts : List Act) (x : Act) → pulse_stamp x ≡ None → length (filter_map pulse_stamp (acts ++ x ∷ [])) ≡ length (filter_map pulse_stamp acts)
no_pulse acts x none =
    ap length (filter_map-append pulse_stamp acts (x ∷ [])
    ∙ (ap (λ o. filter_map pulse_stamp acts ++ cons_option o []) none ∙ append-nil (filter_map pulse_stamp acts)))

-- ---- where it stands, as entries and acts are added

module _ {lockstep : Bool} (s : Script) (q k : ℕ) where
  -- entries that are no calls of the looper
  pub stands_beside : (es more : List Entry) (acts : List Act) (parts : Parts) (a : LooperState) → calls_in k (es ++ more) ≡ calls_in k es
      → StandsBy lockstep s q k es acts parts a → StandsBy lockstep s q k (es ++ more) acts parts a
  stands_beside es more acts parts a same st = record {
    led = λ fs begins is. ActsLead-entries s q es fs more (first_looper s) acts a (st.led fs begins is);
    place = st.place;
    last = st.last;
    settled = st.settled;
    latest_is = st.latest_is;
    awaits_is = st.awaits_is;
    in_time = λ is sound. runs_later s q es more acts parts.frames a (st.in_time is) sound;
    played = subst (λ l. IsPlayed lockstep s q l parts a) (sym same) st.played;
  }

  -- an act of an idle handler or an event
  pub stands_quiet : (es : List Entry) (x : Act) (acts : List Act) (parts : Parts) (a : LooperState) → IsQuietAct x
      → StandsBy lockstep s q k es acts parts a → StandsBy lockstep s q k es (acts ++ x ∷ []) parts a
  unfolding after_act
  stands_quiet es (Idle i t) acts parts a is st = record {
    led = λ fs begins law. ActsLead-snoc s q es fs None (first_looper s) acts a (Idle i t) (st.led fs begins law) (refl, st.settled);
    place = st.place;
    last = st.last;
    settled = st.settled;
    latest_is = st.latest_is;
    awaits_is = st.awaits_is;
    in_time = λ is sound. let was = st.in_time is sound in record { up_to = was.up_to; pulses = no_pulse acts (Idle i t) refl ∙ was.pulses };
    played = st.played;
  }
  stands_quiet es (Event f e m) acts parts a is st = record {
    led = λ fs begins law. ActsLead-snoc s q es fs None (first_looper s) acts a (Event f e m) (st.led fs begins law) (refl, st.settled);
    place = st.place;
    last = st.last;
    settled = st.settled;
    latest_is = st.latest_is;
    awaits_is = st.awaits_is;
    in_time = λ is sound. let was = st.in_time is sound in record { up_to = was.up_to; pulses = no_pulse acts (Event f e m) refl ∙ was.pulses };
    played = st.played;
  }
  stands_quiet es (Dispatch n m r) acts parts a is st = absurd is
  stands_quiet es (Vsync v) acts parts a is st = absurd is
  stands_quiet es (Paint g v) acts parts a is st = absurd is

-- ---- calls more, and looks more

-- a look among some is one among more
looked_left : (k : ℕ) (looks more : List Entry) (time : ℕ) → HasLookedAt k looks time → HasLookedAt k (looks ++ more) time
looked_left k looks more time h = (h.0, Contains-append_left looks more h.0 h.1, h.2, h.3)

looked_right : (k : ℕ) (looks more : List Entry) (time : ℕ) → HasLookedAt k more time → HasLookedAt k (looks ++ more) time
looked_right k looks more time h = (h.0, Contains-append_right looks more h.0 h.1, h.2, h.3)

-- a call that was timed by some looks is timed by more
pub timed_left : (q k : ℕ) (looks more : List Entry) (now queue : ℕ) (t : Timing) → IsTimedBy q k looks now queue t → IsTimedBy q k (looks ++ more) now queue t
timed_left q k looks more now queue (At time) h = looked_left k looks more time h
timed_left q k looks more now queue (InBlock time) h = absurd h
timed_left q k looks more now queue (Exactly time) h = h
timed_left q k looks more now queue AnyTime h = absurd h

pub timed_right : (q k : ℕ) (looks more : List Entry) (now queue : ℕ) (t : Timing) → IsTimedBy q k more now queue t → IsTimedBy q k (looks ++ more) now queue t
timed_right q k looks more now queue (At time) h = looked_right k looks more time h
timed_right q k looks more now queue (InBlock time) h = absurd h
timed_right q k looks more now queue (Exactly time) h = h
timed_right q k looks more now queue AnyTime h = absurd h

-- what was asked by some looks is asked by more
asked_left : (k : ℕ) (looks more : List Entry) (x : FrameAsk) → IsAskedBy k looks x → IsAskedBy k (looks ++ more) x
asked_left k looks more x h = (h.0, looked_left k looks more h.0 h.1, h.2)

asked_right : (k : ℕ) (looks more : List Entry) (x : FrameAsk) → IsAskedBy k more x → IsAskedBy k (looks ++ more) x
asked_right k looks more x h = (h.0, looked_right k looks more h.0 h.1, h.2)

pub goes_then : (q k : ℕ) (looks more : List Entry) (now : ℕ) (a b c : LooperState) → GoesOnTo q k looks now a b → GoesOnTo q k more now b c
    → GoesOnTo q k (looks ++ more) now a c
goes_then q k looks more now a b c f g = record {
  more = f.more ++ g.more;
  sent = g.sent ∙ (ap (λ l. l ++ g.more) f.sent ∙ append_assoc a.sent f.more g.more);
  timed = All-append (λ x. IsTimedBy q k (looks ++ more) now x.queue x.timing) f.more g.more
      (λ i x near. timed_left q k looks more now _ _ (f.timed i x near)) (λ i x near. timed_right q k looks more now _ _ (g.timed i x near));
  asks = f.asks ++ g.asks;
  asked = g.asked ∙ (ap (λ l. l ++ g.asks) f.asked ∙ append_assoc a.asked f.asks g.asks);
  asked_then = All-append (IsAskedBy k (looks ++ more)) f.asks g.asks
      (λ i x near. asked_left k looks more _ (f.asked_then i x near)) (λ i x near. asked_right k looks more _ (g.asked_then i x near));
}

pub goes_nowhere : (q k : ℕ) (looks : List Entry) (now : ℕ) (a : LooperState) → GoesOnTo q k looks now a a
goes_nowhere q k looks now a = record {
  more = [];
  sent = sym (append-nil a.sent);
  timed = All-nil (λ x. IsTimedBy q k looks now x.queue x.timing);
  asks = [];
  asked = sym (append-nil a.asked);
  asked_then = All-nil (IsAskedBy k looks);
}

-- ---- the laws

module _ (s : Script) (q now : ℕ) where
  -- one step more
  pub comes_on : (a : LooperState) (d d' k : ℕ) (seen es looks : List Entry) (acts acts' : List Act) (parts parts' : Parts)
      (c : ComesTo s q now a d k seen es acts parts) (b : LooperState) → TellsPulsesFirst d' acts'
      → StandsBy true s q k (es ++ looks) acts' parts' b → GoesOnTo q k looks now c.state b → ComesTo s q now a d' k seen (es ++ looks) acts' parts'
  comes_on a d d' k seen es looks acts acts' parts parts' c b first stands on = record {
    state = b;
    stands = stands;
    looks = c.looks ++ looks;
    saw = ap (λ l. l ++ looks) c.saw ∙ append_assoc seen c.looks looks;
    on = goes_then q k c.looks looks now a c.state b c.on on;
    first = first;
  }

  module _ (began : StageLooper) where
    -- another sender's entry
    pub playing_others : (d k : ℕ) (es : List Entry) (e : Entry) (acts : List Act) (parts : Parts) → (e.sender ≡ k → ⊥)
        → IsPlaying s q now began d k es acts parts → IsPlaying s q now began d k (es ++ e ∷ []) acts parts
    playing_others d k es e acts parts apart meets = λ text a come.
        let c = meets text a come in
        comes_on a d d k began.looper.held.poster.view.seen es (e ∷ []) acts acts parts parts c c.state c.first
        (stands_beside s q k es (e ∷ []) acts parts c.state (calls_others k es e apart) c.stands) (goes_nowhere q k (e ∷ []) now c.state)

    -- the looper's look that ends the queue
    pub playing_disposed : (d k : ℕ) (es : List Entry) (e : Entry) (time : ℕ) (acts : List Act) (parts : Parts) → e.sender ≡ k → e.call ≡ Next time
        → e.reply ≡ Disposed → IsPlaying s q now began d k es acts parts
        → IsPlaying s q now began d k (es ++ e ∷ []) acts parts
    playing_disposed d k es e time acts parts mine call reply meets = λ text a come.
        let c = meets text a come in
        comes_on a d d k began.looper.held.poster.view.seen es (e ∷ []) acts acts parts parts c c.state c.first
        (stands_beside s q k es (e ∷ []) acts parts c.state (calls_disposed k es e time mine call reply) c.stands)
        (goes_nowhere q k (e ∷ []) now c.state)

    -- an idle handler ran, or a listener was told of an event
    pub playing_quiet : (d k : ℕ) (es : List Entry) (x : Act) (acts : List Act) (parts : Parts) → IsQuietAct x → IsPlaying s q now began d k es acts parts
        → IsPlaying s q now began d k es (acts ++ x ∷ []) parts
    playing_quiet d k es x acts parts is meets = λ text a come.
        let c = meets text a come in
        record {
          state = c.state;
          stands = stands_quiet s q k es x acts parts c.state is c.stands;
          looks = c.looks;
          saw = c.saw;
          on = c.on;
          first = tells_quiet d acts x is c.first;
        }

-- ---- the laws by a clock

module _ (s : Script) (q : ℕ) (began : StageLooper) where
  -- another sender's entry
  pub playing_by_others : (k : ℕ) (es : List Entry) (e : Entry) (acts : List Act) (parts : Parts) → (e.sender ≡ k → ⊥) → IsPlayingBy s q began k es acts parts
      → IsPlayingBy s q began k (es ++ e ∷ []) acts parts
  playing_by_others k es e acts parts apart meets = λ text a come.
      let c = meets text a come in
      (c.0, stands_beside s q k es (e ∷ []) acts parts c.0 (calls_others k es e apart) c.1)

  -- the looper's look that ends the queue
  pub playing_by_disposed : (k : ℕ) (es : List Entry) (e : Entry) (time : ℕ) (acts : List Act) (parts : Parts) → e.sender ≡ k → e.call ≡ Next time
      → e.reply ≡ Disposed → IsPlayingBy s q began k es acts parts
      → IsPlayingBy s q began k (es ++ e ∷ []) acts parts
  playing_by_disposed k es e time acts parts mine call reply meets = λ text a come.
      let c = meets text a come in
      (c.0, stands_beside s q k es (e ∷ []) acts parts c.0 (calls_disposed k es e time mine call reply) c.1)

  -- an idle handler ran, or a listener was told of an event
  pub playing_by_quiet : (k : ℕ) (es : List Entry) (x : Act) (acts : List Act) (parts : Parts) → IsQuietAct x → IsPlayingBy s q began k es acts parts
      → IsPlayingBy s q began k es (acts ++ x ∷ []) parts
  playing_by_quiet k es x acts parts is meets = λ text a come.
      let c = meets text a come in
      (c.0, stands_quiet s q k es x acts parts c.0 is c.1)
