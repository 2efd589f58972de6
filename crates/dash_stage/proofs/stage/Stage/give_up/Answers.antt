use Rattle.std.proofs.Common.{List, sym, subst, arith, Bool}
use Rattle.std.proofs.lemmas.List.{with_items_is}
use Rattle.dash_loopers.specs.declared.looper.StageLooper.{StageLooper}
use Rattle.dash_stage.specs.Controllers.{IsControllerIn}
use Rattle.dash_stage.specs.Turns.{HaveRunRound}
use Rattle.dash_stage.specs.declared.side.Turn.TheVariants.{Others}
use Rattle.dash_stage.proofs.BlockTimes.{playable}
use Rattle.dash_stage.proofs.Sharing.{others_have_turn}
use Rattle.dash_stage.proofs.stage.Stage.give_up.Goals as goal

pub give_up-quit-requires : goal.give_up-quit-requires
give_up-quit-requires g c =
    let is = c.requires.stage in
    record {
      at = record {
        is_hall = is.hall;
        known = (playable c.args.script.now is.text).loopers;
        controller = subst (λ (b : Bool). IsControllerIn b c.args.script.now c.args.self.now.hall c.args.self.now.controller) (sym is.controller.mode) is.controller;
      };
    }

pub returns : goal.returns
returns g c =
    let s = c.args.script.now in
    let me = c.args.self.now in
    let is = c.requires.stage in
    let gave = c.give_up-quit.ensures in
    let ran = c.run_loopers.new.loopers in
    let long = c.run_loopers.ensures.round.loopers.0 in
    let many = is.loopers.0 in
    let wrote = sym (with_items_is me.loopers ran (omega (arith, long, many, me.loopers.ok.0))) in
    let round = subst (λ (xs : List StageLooper). HaveRunRound Others s me.hall me.time me.loopers.items xs) wrote
    (subst (λ (xs : List StageLooper). HaveRunRound Others s me.hall me.time xs ran) c.as_mut_slice.ensures.value c.run_loopers.ensures.round) in
    record {
      stage = record {
        text = is.text;
        hall = is.hall;
        threads = is.threads;
        loopers = round.loopers;
        controller = subst (λ (b : Bool). IsControllerIn b s me.hall c.give_up-quit.new.self) is.controller.mode gave.controller;
        pass = is.pass;
      };
      nudged = gave.nudged;
      quit = gave.quit;
      run = λ k d some lt. round.rounds k d lt (others_have_turn k some);
      main = round.others;
    }
