use Rattle.std.proofs.Common.{sym, ◌∙◌}
use Rattle.dash_hall.specs.Hearing.{seen_by}
use Rattle.dash_stage.proofs.Stages.StageWhole.{grown_none}
use Rattle.dash_stage.proofs.Sharing.{awaited_self, awaited_then}
use Rattle.dash_stage.proofs.Moves.{still_self, still_then, stays_self, stays_then}
use Rattle.dash_stage.proofs.stage.Stage.run_rounds.Goals as goal

pub loop-init : goal.loop-init
loop-init g c = record {
  still = still_self c.args.script.now c.args.self.now c.requires.stage;
  at = stays_self c.args.script.now c.args.self.now;
  others = awaited_self c.args.turn c.args.self.now.loopers.items;
  same = λ same. same;
}

pub loop-preserved : goal.loop-preserved
loop-preserved g c =
    let s = c.args.script.now in
    let at = c.loop.invariant in
    let done = c.in_ok-run_round.ensures.round in
    record {
      still = still_then s c.args.self.now c.loop.self c.run_round.new.self at.still c.run_round.ensures.still;
      at = stays_then s c.args.self.now c.loop.self c.run_round.new.self at.at done.at;
      others = awaited_then c.args.turn _ _ _ (at.still.stage.loopers.0 ∙ sym c.requires.stage.loopers.0) at.others done.turns.others;
      same = λ same. done.same;
    }

pub returns-in_err-run_round-clause-still : goal.returns-in_err-run_round-clause-still
returns-in_err-run_round-clause-still g c = still_then c.args.script.now c.args.self.now c.loop.self c.run_round.new.self c.loop.invariant.still c.run_round.ensures.still

pub returns-then-entries_seen-before : goal.returns-then-entries_seen-before
returns-then-entries_seen-before g c =
    let s = c.args.script.now in
    let at = c.loop.invariant in
    let done = c.in_ok-run_round.ensures.round in
    record {
      still = still_then s c.args.self.now c.loop.self c.run_round.new.self at.still c.run_round.ensures.still;
      rounds = record {
        at = stays_then s c.args.self.now c.loop.self c.run_round.new.self at.at done.at;
        turns = record { on = done.turns.on; others = awaited_then c.args.turn _ _ _ (at.still.stage.loopers.0 ∙ sym c.requires.stage.loopers.0) at.others done.turns.others };
        rested = λ all same. done.rested.rested all (at.same same)
            (grown_none (seen_by c.loop.self.controller.kit.posters.items) (seen_by c.run_round.new.self.controller.kit.posters.items) done.rested.grown
            (sym c.entries_seen.ensures ∙ (c.if-entries_seen-before.true ∙ c.entries_seen-before.ensures)));
      };
    }
