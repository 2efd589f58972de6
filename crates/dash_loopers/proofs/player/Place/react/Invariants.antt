use Rattle.std.proofs.Common.{take}
use Rattle.dash_loopers.specs.Played.{Plays, calls_of}
use Rattle.dash_loopers.specs.Steps.{OnlyCalls}
use Rattle.dash_loopers.proofs.RuleSteps.{rules_met}
use Rattle.dash_loopers.proofs.player.Place.react.Given as goal

abbrev pub invariant-loop-place : goal.invariant-loop-place
invariant-loop-place g l = record {
  calls : OnlyCalls l.initial.parts l.parts l.initial.own l.own;
  plays : Plays l.fn.self.script.now l.fn.self.looper (rules_met l.fn.self.script.now l.fn.now l.fn.p 0 (take l.place l.fn.self.script.now.rules)) (calls_of l.initial.own.poster.now) l.initial.parts (calls_of l.own.poster.now) l.parts;
}
