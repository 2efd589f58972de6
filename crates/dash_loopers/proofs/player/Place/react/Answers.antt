use Rattle.std.proofs.Common.{subst, length, ◌≤◌}
use Rattle.dash_loopers.proofs.RuleSteps.{rule_at, plays_next, plays_all}
use Rattle.dash_loopers.proofs.LooperLeaves.{none_called, calls_then}
use Rattle.dash_loopers.proofs.player.Place.react.Goals as goal

pub loop-place-init : goal.loop-place-init
loop-place-init g c = record { calls = none_called c.args.parts.now c.args.own.now; plays = λ lockstep text a is. is }

pub loop-place-preserved : goal.loop-place-preserved
loop-place-preserved g c =
    let at = c.loop-place.invariant in
    record {
      calls = calls_then c.args.parts.now c.loop-place.parts c.fire.new.parts c.args.own.now c.loop-place.own c.fire.new.own at.calls c.fire.ensures.calls;
      plays = plays_next c.args.self.now.script.now c.args.self.now.looper c.args.now c.args.p.now c.loop-place.place _ _ _ _ _ _ _
          (rule_at c.args.self.now.script.now.rules c.as_slice-rule-items.result.now c.loop-place.place (record { handler = 0; what = 0; times = 0; to_handler = 0; to_what = 0; delay = 0 }) c.as_slice-rule-items.ensures c.loop-place-test.true)
          at.plays c.in_ok-fire.ensures.plays;
    }

pub returns-in_err-fire-clause-calls : goal.returns-in_err-fire-clause-calls
returns-in_err-fire-clause-calls g c = calls_then c.args.parts.now c.loop-place.parts c.fire.new.parts c.args.own.now c.loop-place.own c.fire.new.own c.loop-place.invariant.calls c.fire.ensures.calls

pub returns-clause-plays : goal.returns-clause-plays
returns-clause-plays g c =
    plays_all c.args.self.now.script.now c.args.self.now.looper c.args.now c.args.p.now c.loop-place.place _ _ _ _ (subst (λ l. length l ≤ c.loop-place.place) c.as_slice-rule-items.ensures c.loop-place-test.false) c.loop-place.invariant.plays
