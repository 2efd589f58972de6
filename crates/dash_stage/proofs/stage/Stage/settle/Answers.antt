use Rattle.std.proofs.Common.{refl}
use Rattle.dash_stage.proofs.Moves.{still_then, stays_then}
use Rattle.dash_stage.proofs.stage.Stage.settle.Goals as goal

pub returns-in_err-hand_out-clause-still : goal.returns-in_err-hand_out-clause-still
returns-in_err-hand_out-clause-still g c = still_then c.args.script.now c.args.self.now c.run_rounds.new.self c.hand_out.new.self c.run_rounds.ensures.still c.hand_out.ensures.still

pub returns-in_err-run_rounds-2-clause-still : goal.returns-in_err-run_rounds-2-clause-still
returns-in_err-run_rounds-2-clause-still g c =
    still_then c.args.script.now c.args.self.now c.hand_out.new.self c.run_rounds-then-has_many.new.self
    (still_then c.args.script.now c.args.self.now c.run_rounds.new.self c.hand_out.new.self c.run_rounds.ensures.still c.hand_out.ensures.still) c.run_rounds-then-has_many.ensures.still

pub returns-in_ok-run_rounds-2 : goal.returns-in_ok-run_rounds-2
returns-in_ok-run_rounds-2 g c =
    let s = c.args.script.now in
    let first = c.args.self.now in
    let handed = c.hand_out.new.self in
    let after = c.run_rounds-then-has_many.new.self in
    let last = c.in_ok-run_rounds-2.ensures.rounds in
    record {
      still = still_then s first handed after (still_then s first c.run_rounds.new.self handed c.run_rounds.ensures.still c.hand_out.ensures.still) c.run_rounds-then-has_many.ensures.still;
      settles = record {
        at = stays_then s first handed after (stays_then s first c.run_rounds.new.self handed c.in_ok-run_rounds.ensures.rounds.at c.in_ok-hand_out.ensures.shares.at) last.at;
        rested = λ same. last.rested refl c.in_ok-hand_out.ensures.shares.same;
      };
    }

pub returns-else-has_many-clause-settles : goal.returns-else-has_many-clause-settles
returns-else-has_many-clause-settles g c = (let rounds = c.in_ok-run_rounds.ensures.rounds in record { at = rounds.at; rested = rounds.rested refl })
