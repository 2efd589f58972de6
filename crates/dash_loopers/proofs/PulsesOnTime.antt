-- A pulse is the one that is asked for, so it comes at its millisecond where that was looked at just before.
use Rattle.std.proofs.Common.{◌≡◌, ◌≢◌, ℕ, ◌<◌, Bool, true, false, List, Option, Some, None, refl, sym, ap, ◌∙◌, subst, arith, append-nil}
use Rattle.std.specs.Prelude.{◌||◌, ◌==◌, ◌%◌, ◌^◌, ◌-◌, nat_le, nat_lt, if◌then◌else◌}
use Rattle.std.specs.Option.{option_map, option_map_or}
use Rattle.std.proofs.lemmas.Bool.{and_parts}
use Rattle.std.proofs.lemmas.Bool.Decides.{nat_tests}
use Rattle.loop_model.specs.declared.entry.Entry.{Entry}
use Rattle.loop_model.specs.declared.journal.Act.{Act}
use Rattle.frame_phases.specs.Frames.{is_pulse}
use Rattle.frame_phases.specs.Pulses.{is_pulse_if_any}
use Rattle.frame_phases.specs.State.{delivered}
use Rattle.dash_script.specs.declared.script.Script.{Script}
use Rattle.choreographer.specs.declared.host.Sending.{Sending}
use Rattle.choreographer.specs.declared.hosted.Pulse.{Pulse}
use Rattle.choreographer.specs.Known.{Pass, IfAlone}
use Rattle.choreographer.specs.Calls.{AskedBy, PulsedBy, stamp_in}
use Rattle.choreographer.proofs.InTime.{turn_quiet}
use Rattle.choreographer.proofs.Recorded.{asked_records}
use Rattle.run_model.specs.FrameRecords.{millis_up, asks_in}
use Rattle.dash_loopers.specs.declared.player.Parts.{Parts}
use Rattle.dash_hall.proofs.Badges.{frame_turn_badge}
use Rattle.dash_loopers.specs.Players.{AreSameParts}
use Rattle.dash_loopers.specs.Played.{ComesAsAsked, Pulses}
use Rattle.dash_loopers.proofs.FrameIds.{turn_grew}
use Rattle.dash_loopers.proofs.LatestPulses.{turn_keeps_latest, turn_may_await}
use Rattle.dash_loopers.proofs.PlaySteps.{played_with}

-- a pulse came at its millisecond, rounded up, if one came
abbrev pub ComesThen : ℕ → Option ℕ → Type 0
ComesThen now None = Unit {0}
ComesThen now (Some stamp) = millis_up stamp ≡ now

-- so it did in lockstep, where the pass alone delivers pulses
abbrev pub PulsesThen : Script → ℕ → ℕ → List Entry → List Entry → Parts → Parts → List Act → List Act → Type 0
PulsesThen s q now made made' parts parts' acts acts' =
    (p : Pulses s q now made made' parts parts' acts acts') × IfAlone parts.frames (ComesThen now p.stamp)

-- the pulse that is asked for is delivered, or none is
one_asked : (asked : Option ℕ) (now stamp : ℕ) → delivered asked now ≡ Some stamp → option_map_or (λ (p : ℕ). p) asked 0 ≡ stamp
one_asked None now stamp is = absurd cc
one_asked (Some pulse) now stamp is = go (nat_le pulse now) is
  where
    go : (b : Bool) → (if b then Some pulse else None) ≡ Some stamp → pulse ≡ stamp
    go true e = cc (e)
    go false e = absurd cc

-- so the pulse that comes is the one that the pass knew to be asked for
pub comes_as_asked : (before after : Pass) (is_moment : ℕ → Bool) (sends sends' : List Sending) (r : Option Pulse) → PulsedBy before after is_moment sends sends' r → ComesAsAsked before (stamp_in r)
comes_as_asked before after is_moment sends sends' None t = λ c e named stamp is asks. absurd cc
comes_as_asked before after is_moment sends sends' (Some pulse) (x, y, n, turn, moment, (some, left, sent)) = λ c e named stamp is asks.
    (let same : pulse.stamp ≡ stamp = cc (is) in
    let found = (turn.asks c e named).0 asks in
    sym same ∙ (sym (one_asked x.frames.asked n pulse.stamp some) ∙ found))

-- a look at what is asked for delivers none
pub looked_only : (s : Script) (q now : ℕ) (made : List Entry) (parts : Parts) (g : Pass) (r : Option ℕ) (acts : List Act) → AskedBy parts.frames g r
    → PulsesThen s q now made made parts (record parts { frames = g }) acts acts
looked_only s q now made parts g r acts asked = (
  record {
    stamp = None;
    next = record {
      is_pulse = refl;
      later = λ stamp waits has. (refl, refl);
      asked = λ c e named stamp is. absurd cc;
      got = λ stamp waits has. turn_keeps_latest parts.frames g asked.0 asked.0 asked.1 refl refl stamp waits has;
      quiet = turn_quiet parts.frames g asked.0 asked.0 asked.1 refl;
      wanted = λ c e named. refl;
      waits = refl;
    };
    due = omega arith;
    told = sym (append-nil acts);
    grew = turn_grew parts.frames g asked.0 asked.0 asked.1;
    asks = ap asks_in (asked_records parts.frames g r asked);
    plays = λ lockstep text a is. played_with s q made made parts (record parts { frames = g }) a refl (ap asks_in (asked_records parts.frames g r asked)) refl refl refl is;
  },
  λ c e named. tt,
)

-- the parts are the same behind such a look
pub looked_parts : (parts : Parts) (g : Pass) (r : Option ℕ) → AskedBy parts.frames g r → AreSameParts parts (record parts { frames = g })
looked_parts parts g r asked = record {
  others = refl;
  frames = frame_turn_badge parts.frames g asked.0 asked.0 asked.1;
  awaits = turn_may_await parts (record parts { frames = g }) asked.0 asked.0 asked.1 refl refl;
}

-- the pulse that was found, where its millisecond is this
pub found_then : (r pulse : Option ℕ) (due now : ℕ) → pulse ≡ option_map millis_up r → pulse ≡ Some due → due ≡ now → (p : ℕ) × (r ≡ Some p) × (millis_up p ≡ now)
found_then None pulse due now is some here = (let wrong : None ≡ Some due = sym is ∙ some in absurd cc)
found_then (Some p) pulse due now is some here = (let both : Some (millis_up p) ≡ Some due = sym is ∙ some in let same : millis_up p ≡ due = cc (both) in (p, refl, same ∙ here))

-- a pulse is later than 0
is_later : (period p : ℕ) → is_pulse period p ≡ true → p ≢ 0
is_later period p is = λ none. (let later = (and_parts (nat_lt 0 p) (p % period == 0 || p == 2 ^ 64 - 1) is).0 in let low : 0 < p = grind (arith, nat_tests) in absurd (omega (arith, low, none)))

-- behind a look at this millisecond of a pulse the pulse that comes comes then
pub comes_then : (before g : Pass) (period now p : ℕ) (r came : Option ℕ) → AskedBy before g r → is_pulse_if_any period r ≡ true → r ≡ Some p → millis_up p ≡ now → ComesAsAsked g came → IfAlone g (ComesThen now came)
comes_then before g period now p r came (x, turn, is) pulse some here comes = λ c e named.
    (let asks = (turn.asks c (sym turn.constants ∙ e) (named ∙ ap Some turn.number)).1 in
    let known : g.view.asks ≡ p = asks ∙ ap (λ (o : Option ℕ). option_map_or (λ (z : ℕ). z) o 0) (sym is ∙ some) in
    let low : p ≢ 0 = is_later period p (subst (λ (o : Option ℕ). is_pulse_if_any period o ≡ true) some pulse) in
    by_came known low came (comes c e named))
  where
    by_came : g.view.asks ≡ p → p ≢ 0 → (o : Option ℕ) → ((stamp : ℕ) → o ≡ Some stamp → g.view.asks ≢ 0 → stamp ≡ g.view.asks) → ComesThen now o
    by_came known low None h = tt
    by_came known low (Some stamp) h = ap millis_up (h stamp refl (λ none. low (sym known ∙ none)) ∙ known) ∙ here
