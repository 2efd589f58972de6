-- A looper that asked its choreographer for the next pulse stands where it stood.
use Rattle.std.proofs.Common.{◌≡◌, ℕ, ◌<◌, ◌≤◌, Bool, true, false, List, length, get_or, Option, Some, None, refl, sym, ap, ◌∙◌, subst, arith}
use Rattle.std.specs.List.{insert}
use Rattle.std.specs.Option.{IsSomeAnd, option_map}
use Rattle.std.specs.Prelude.{◌+◌, ◌||◌, map}
use mathlib.Core.List.{IsPrefix}
use Rattle.loop_model.proofs.Prefixes.{prefix_self, prefix_trans, prefix_length}
use Rattle.dash_script.specs.declared.script.Script.{Script}
use Rattle.looper_run.specs.Holding.{Sender, Looping}
use Rattle.looper_run.specs.Round.{is_ended}
use Rattle.choreographer.specs.Known.{Pass}
use Rattle.choreographer.specs.Calls.{AskedBy}
use Rattle.choreographer.proofs.Recorded.{asked_records}
use Rattle.run_model.specs.FrameRecords.{millis_up, asks_in, as_told}
use Rattle.run_model.specs.Loopers.{LooperState}
use Rattle.run_model.specs.Moments.{Mode}
use Rattle.dash_hall.specs.declared.hall.Hall.{Hall}
use Rattle.dash_hall.specs.Kits.{IsHall}
use Rattle.dash_hall.specs.ByClock.{IsByClock}
use Rattle.dash_hall.proofs.Badges.{frame_turn_badge}
use Rattle.dash_loopers.specs.declared.player.Parts.{Parts}
use Rattle.dash_loopers.specs.declared.looper.StageLooper.{StageLooper}
use Rattle.dash_loopers.specs.Loopers.{ArePartsOf, IsLooper, others_in, posters_of, is_given_up}
use Rattle.dash_loopers.specs.Played.{StandsBy, StandsSomewhere, HasPlayedBy}
use Rattle.dash_loopers.specs.Clocked.{AreByClockOf}
use Rattle.dash_loopers.specs.Looped.{GoesOnFrom, StaysTold, LooksForPulse, HasLooped, HasOnlyLooked}
use Rattle.dash_loopers.proofs.FrameIds.{turn_grew}
use Rattle.dash_loopers.proofs.LatestPulses.{turn_keeps_latest, turn_may_await}
use Rattle.dash_loopers.proofs.LooperLoops.{plays_then}
use Rattle.choreographer.proofs.InTime.{turn_quiet}
use Rattle.dash_loopers.proofs.WantedPulses.{last_quietly}
use Rattle.dash_loopers.proofs.LooperKits.{parts_of, others_many, looper_of, looper_with}

-- it is the looper still
pub looper_asked : (s : Script) (hall : Hall) (l : StageLooper) (parts : Parts) (g : Pass) (r : Option ℕ) → IsLooper s hall l → l.parts ≡ Some parts → AskedBy parts.frames g r
    → IsLooper s hall (record { number = l.number; sender = l.sender; looper = l.looper; parts = Some (record parts { frames = g }); last = l.last; dispatched = l.dispatched })
looper_asked s hall l parts g r is e asked =
    let are = parts_of s hall l parts is e in
    let badge = frame_turn_badge _ _ _ _ asked.1 in
    looper_with s hall l (record parts { frames = g }) (record { others = are.others; frames = λ c at. badge ∙ are.frames c at; awaits = turn_may_await parts (record parts { frames = g }) asked.0 asked.0 asked.1 refl refl are.awaits }) is

-- and stands where it stood
pub played_asked : (s : Script) (l : StageLooper) (parts : Parts) (g : Pass) (r : Option ℕ) → l.parts ≡ Some parts → AskedBy parts.frames g r
    → HasPlayedBy s l (record { number = l.number; sender = l.sender; looper = l.looper; parts = Some (record parts { frames = g }); last = l.last; dispatched = l.dispatched })
played_asked s l parts g r e asked = λ going text a come. (
  a,
  (let st : StandsBy false s l.number l.sender l.looper.held.poster.view.seen l.looper.held.journal.acts parts a =
      subst (λ (o : Option Parts). IsSomeAnd o (λ ps. StandsBy false s l.number l.sender l.looper.held.poster.view.seen l.looper.held.journal.acts ps a)) e come in
      let grew : IsPrefix parts.frames.view.seen g.view.seen = turn_grew parts.frames g asked.0 asked.0 asked.1 in
      record {
        led = λ fs begins law. st.led fs (prefix_trans parts.frames.view.seen g.view.seen fs grew begins) law;
        place = (let le = st.place in let longer = prefix_length parts.frames.view.seen g.view.seen grew in omega (arith, le, longer));
        last = last_quietly a.place parts.frames.view.seen g.view.seen (turn_quiet parts.frames g asked.0 asked.0 asked.1 refl st.latest_is.key st.latest_is.constants st.latest_is.alone) st.place st.last;
        settled = st.settled;
        latest_is = turn_keeps_latest parts.frames g asked.0 asked.0 asked.1 refl refl a.stamp a.awaits st.latest_is;
        awaits_is = st.awaits_is;
        in_time = λ is. absurd (let wrong : false ≡ true = is in cc);
        played = record {
          shown = record {
            calls = st.played.shown.calls;
            asked = ap (λ l. map (as_told false) (asks_in l)) (asked_records parts.frames g r asked) ∙ st.played.shown.asked;
            stands = st.played.shown.stands;
          };
          elsewhere = st.played.elsewhere;
          fired = st.played.fired;
          counts = st.played.counts;
        };
      }),
)

-- by the pulse that its own pass found
pub pulse_asked : (o : Option Parts) (parts : Parts) (g : Pass) (stamp pulse : Option ℕ) → o ≡ Some parts → AskedBy parts.frames g stamp → pulse ≡ option_map millis_up stamp
    → IsSomeAnd o (λ p. LooksForPulse p (record parts { frames = g }) pulse)
pulse_asked o parts g stamp pulse e asked rounded =
    subst (λ (x : Option Parts). IsSomeAnd x (λ p. LooksForPulse p (record parts { frames = g }) pulse)) (sym e)
    (record { stamp = stamp; turn = asked; rounded = rounded; rest = refl })

-- its posters are as they were
pub posters_asked : (l : StageLooper) (parts : Parts) → l.parts ≡ Some parts → insert parts.others.items l.number l.looper.held.poster ≡ posters_of l
posters_asked l parts e = ap (λ (o : Option Parts). insert (others_in o) l.number l.looper.held.poster) (sym e)

-- ---- from one loop to the next

-- a looper that has done nothing since
pub played_self : (s : Script) (l : StageLooper) → HasPlayedBy s l l
played_self s l = λ going text a come. from l.parts a come
  where
    from : (o : Option Parts) (a : LooperState) → IsSomeAnd o (λ parts. StandsBy false s l.number l.sender l.looper.held.poster.view.seen l.looper.held.journal.acts parts a)
        → IsSomeAnd o (StandsSomewhere s l.number l.sender l.looper.held.poster.view.seen l.looper.held.journal.acts)
    from None a h = absurd h
    from (Some parts) a h = (a, h)

pub grown_self : (l : StageLooper) → StaysTold l l
grown_self l = λ going. record { seen = prefix_self l.looper.held.poster.view.seen; acts = prefix_self l.looper.held.journal.acts }

-- one that asked for its pulse in between goes on from where it was
pub grown_on : (a b k c : StageLooper) → k.looper ≡ b.looper → is_given_up b.last ≡ false → StaysTold a b → StaysTold k c → StaysTold a c
grown_on a b k c held going first next = λ on.
    (let x = first going in
    let y : GoesOnFrom b.looper c.looper = subst (λ (l : Looping). GoesOnFrom l c.looper) held (next on) in
    record {
      seen = prefix_trans a.looper.held.poster.view.seen b.looper.held.poster.view.seen c.looper.held.poster.view.seen x.seen y.seen;
      acts = prefix_trans a.looper.held.journal.acts b.looper.held.journal.acts c.looper.held.journal.acts x.acts y.acts;
    })

-- a looper is within its posters
pub looper_within : (s : Script) (hall : Hall) (l : StageLooper) → IsHall s hall → IsLooper s hall l → l.number ≤ length (others_in l.parts)
looper_within s hall l is_hall is = go l.parts refl
  where
    go : (o : Option Parts) → l.parts ≡ o → l.number ≤ length (others_in o)
    go None e = absurd (subst (λ (o : Option Parts). IsSomeAnd o (ArePartsOf s hall l.number)) e is.parts)
    go (Some parts) e = others_many s hall l.number (looper_of s hall l is_hall is) parts (parts_of s hall l parts is e)

-- the same posters are by the clock
pub by_clock_same : (m : Mode) (l k : StageLooper) → posters_of k ≡ posters_of l → AreByClockOf m l → AreByClockOf m k
by_clock_same m l k same = subst (λ (ps : List Sender). (q : ℕ) (d : Sender) → q < length ps → IsByClock m (get_or ps q d)) (sym same)

-- one that has ended or given up is told by its last round
pub stopped_not : (a b : Bool) → a ≡ false → b ≡ false → (a || b) ≡ true → ⊥
stopped_not a b none going is = (let wrong : false ≡ true = sym (λ i. none i || going i) ∙ is in absurd cc)

-- the same looper has the same sender
pub senders_same : (s : Script) (hall : Hall) (l k : StageLooper) → IsLooper s hall l → IsLooper s hall k → k.number ≡ l.number → k.sender ≡ l.sender
senders_same s hall l k is is' same = is'.sender ∙ (ap (λ (n : ℕ). s.threads + n) same ∙ sym is.sender)

-- it went on by a pulse asked for and a loop
pub plays_on : (s : Script) (hall : Hall) (a b k c : StageLooper) → IsLooper s hall a → IsLooper s hall b → IsLooper s hall k → b.number ≡ a.number → k.number ≡ b.number → k.last ≡ b.last → is_given_up b.last ≡ false
    → HasPlayedBy s a b → HasPlayedBy s b k → HasPlayedBy s k c → HasPlayedBy s a c
plays_on s hall a b k c is_a is_b is_k here there same going first next last =
    let far = there ∙ here in
    plays_then s a k c far (senders_same s hall a k is_a is_k far) (ap is_given_up same ∙ going)
    (plays_then s a b k here (senders_same s hall a b is_a is_b here) going first next) last

-- one that has ended or given up goes on to nothing
pub stays_on : (a b c : StageLooper) → ((is_ended a.last || is_given_up a.last) ≡ true → b ≡ a) → is_ended b.last ≡ false → is_given_up b.last ≡ false → (is_ended a.last || is_given_up a.last) ≡ true → c ≡ a
stays_on a b c still unended going stopped =
    let same = still stopped in
    absurd (stopped_not (is_ended a.last) (is_given_up a.last) (ap (λ (z : StageLooper). is_ended z.last) (sym same) ∙ unended) (ap (λ (z : StageLooper). is_given_up z.last) (sym same) ∙ going) stopped)

-- a looper that has done nothing since has looped
pub looped_self : (m : Mode) (s : Script) (hall : Hall) (l : StageLooper) → IsLooper s hall l → HasLooped m s hall l l
looped_self m s hall l is = record { looper = is; number = refl; plays = played_self s l; clocked = λ going had. had; grew = grown_self l }

-- one that looked for its pulse, and looped then, has looped
pub looped_on : (m : Mode) (s : Script) (hall : Hall) (a b k c : StageLooper) → IsLooper s hall a → is_given_up b.last ≡ false → HasLooped m s hall a b → HasOnlyLooked s hall b k → HasLooped m s hall k c → HasLooped m s hall a c
looped_on m s hall a b k c is going here next ran = record {
  looper = ran.looper;
  number = ran.number ∙ (next.number ∙ here.number);
  plays = plays_on s hall a b k c is here.looper next.looper here.number next.number next.last going here.plays next.plays ran.plays;
  clocked = λ end had. ran.clocked end (by_clock_same m b k next.posters (here.clocked going had));
  grew = grown_on a b k c next.held going here.grew ran.grew;
}
