-- What a looper's pass asks of its choreographer in a round: callbacks that are due at once, and frames with their phases at the round's time.
use Rattle.std.proofs.Common.{◌≡◌, ◌≤◌, ◌/◌, ℕ, true, List, [], ◌++◌, sym, ap, ◌∙◌, subst, append_assoc}
use Rattle.std.specs.List.{AllByRecursion}
use Rattle.std.proofs.lemmas.List.{append-nil}
use Rattle.loop_model.specs.declared.entry.Entry.{Entry}
use Rattle.loop_model.specs.declared.journal.Act.{Act}
use Rattle.loop_model.proofs.Sorting.{AllByRecursion-weaker, AllByRecursion-append}
use Rattle.loop_model.proofs.WellFormedLaws.{All_recursive}
use Rattle.dash_script.specs.declared.script.Script.{Script}
use Rattle.choreographer.specs.Known.{Pass}
use Rattle.run_model.specs.Loopers.{LooperState}
use Rattle.run_model.specs.FrameRecords.{FrameAsk, Posts, Removes, Begins, Takes, asked_for}
use Rattle.run_model.proofs.AskedInTurn.{due_at_once, nanos_at_once}
use Rattle.dash_hall.specs.Hosts.{pass_asks}
use Rattle.dash_hall.proofs.FramePosts.{told_whole}
use Rattle.dash_loopers.specs.declared.player.Parts.{Parts}
use Rattle.dash_loopers.specs.Played.{PassHasAsked, HasLookedAt, IsAskedAt, IsAskedBy, StandsBy, GoesOnTo}

-- in lockstep the pass asked for just what the state asks
pub asked_whole : (p : Pass) (asks : List FrameAsk) → PassHasAsked true p asks → pass_asks p ≡ asks
asked_whole p asks h = sym (told_whole (pass_asks p)) ∙ (h ∙ told_whole asks)

-- the looper's pass asked for this more, at this time
pub record AskAt (time : ℕ) (before after : Parts) : Type 0 where
  pub asks : List FrameAsk
  pub asked : pass_asks after.frames ≡ pass_asks before.frames ++ asks
  pub asked_then : AllByRecursion (IsAskedAt time) asks

-- who asks for nothing
pub asked_nothing : (time : ℕ) (before after : Parts) → pass_asks after.frames ≡ pass_asks before.frames → AskAt time before after
asked_nothing time before after same = record { asks = []; asked = same ∙ sym (append-nil (pass_asks before.frames)); asked_then = tt }

-- one round behind another at one time
pub asked_behind : (time : ℕ) (a b c : Parts) → AskAt time a b → AskAt time b c → AskAt time a c
asked_behind time a b c f g = record {
  asks = f.asks ++ g.asks;
  asked = g.asked ∙ (ap (λ l. l ++ g.asks) f.asked ∙ append_assoc (pass_asks a.frames) f.asks g.asks);
  asked_then = AllByRecursion-append (IsAskedAt time) f.asks g.asks f.asked_then g.asked_then;
}

-- where it stood at one state and goes on to another, and each of its looks meanwhile was at this time
pub asks_in_round : (s : Script) (q k now time : ℕ) (es es' looks : List Entry) (acts acts' : List Act) (before after : Parts) (a b : LooperState)
    → StandsBy true s q k es acts before a → StandsBy true s q k es' acts' after b → GoesOnTo q k looks now a b
    → ((t : ℕ) → HasLookedAt k looks t → t ≡ time) → AskAt time before after
asks_in_round s q k now time es es' looks acts acts' before after a b was is g met = record {
  asks = g.asks;
  asked = asked_whole after.frames b.asked is.played.shown.asked ∙ (g.asked ∙ ap (λ l. l ++ g.asks) (sym (asked_whole before.frames a.asked was.played.shown.asked)));
  asked_then = AllByRecursion-weaker (IsAskedBy k looks) (IsAskedAt time) (λ x p. subst (λ (t : ℕ). IsAskedAt t x) (met p.0 p.1) p.2) g.asks
      (All_recursive (IsAskedBy k looks) g.asks g.asked_then);
}

-- so what it asks for is for that time, as far as the nanoseconds of 64 bits go
pub asked_for_time : (time : ℕ) → time ≤ 18446744073709 → (before after : Parts) (x : AskAt time before after) → AllByRecursion (λ (a : FrameAsk). asked_for a ≡ time) x.asks
asked_for_time time le before after x = AllByRecursion-weaker (IsAskedAt time) (λ (a : FrameAsk). asked_for a ≡ time) at x.asks x.asked_then
  where
    at : (a : FrameAsk) → IsAskedAt time a → asked_for a ≡ time
    at (Posts phase due id token) is = is ∙ due_at_once time le
    at (Removes phase id token) is = absurd is
    at (Begins start) is = ap (λ (n : ℕ). n / 1000000) is ∙ nanos_at_once time le
    at (Takes phase moment) is = ap (λ (n : ℕ). n / 1000000) is ∙ nanos_at_once time le
