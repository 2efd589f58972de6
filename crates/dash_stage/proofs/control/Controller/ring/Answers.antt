use Rattle.std.proofs.Common.{◌≡◌, ◌+◌}
use Rattle.looper_run.specs.Holding.{Sender}
use Rattle.dash_hall.specs.Growth.{own}
use Rattle.dash_stage.proofs.Controller.Controlling.{in_queues, in_posters, has_poster, own_poster, stands_there, after_bell, none_by_bell}
use Rattle.dash_stage.proofs.Controller.ControlTurns.{turns_elsewhere}
use Rattle.dash_stage.proofs.control.Controller.ring.Goals as goal

pub index-requires : goal.index-requires
index-requires g c = in_queues c.requires.at

pub index_mut-requires : goal.index_mut-requires
index_mut-requires g c = in_posters c.requires.at

pub nudge-requires-after_bounds : goal.nudge-requires-after_bounds
nudge-requires-after_bounds g c κs within =
    (own_poster c.requires.at c.index_mut.ensures.value c.index.ensures).0

pub returns : goal.returns
returns g c =
    let at = c.requires.at in
    let me = c.args.self.now in
    let p = c.index_mut.result.now in
    let p' = c.nudge.new.self in
    let is_p = c.index_mut.ensures.value in
    let there = stands_there me.kit.posters.items c.args.place p p' (has_poster at) is_p in
    record {
      alone = record {
        controller = after_bell c.args.script.now c.args.hall.now c.args.place me p p' at.controller is_p c.nudge.ensures.same.0;
        elsewhere = turns_elsewhere me c.args.place p' me.kit.pass;
      };
      rung = record {
        rung = there (λ (a b : Sender). b.view.rung ≡ a.view.rung + 1) c.nudge.ensures.rung;
        none = there (λ (a b : Sender). own b ≡ own a) (none_by_bell p p' c.nudge.ensures.same.0 c.nudge.ensures.same.1);
      };
    }
