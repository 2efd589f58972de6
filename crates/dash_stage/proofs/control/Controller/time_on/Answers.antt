use Rattle.std.proofs.Common.{refl, ◌∙◌}
use Rattle.dash_stage.proofs.Controller.Controlling.{in_queues, in_posters, own_poster}
use Rattle.dash_stage.proofs.Controller.ControlTurns.{turned_none, turned_time, turns_none, turns_here, turned_alone}
use Rattle.dash_stage.proofs.control.Controller.time_on.Goals as goal

pub index_mut-requires : goal.index_mut-requires
index_mut-requires g c = in_posters c.requires.at

pub index-requires : goal.index-requires
index-requires g c = in_queues c.requires.at

pub time-requires-clause-queue : goal.time-requires-clause-queue
time-requires-clause-queue g c κs within =
    (own_poster c.requires.at c.index_mut.ensures.value c.index.ensures).0

pub returns : goal.returns
returns g c =
    let at = c.requires.at in
    let is_p = c.index_mut.ensures.value in
    let t = c.time.ensures.1 in
    let pass = c.args.self.now.kit.pass in
    record {
      idle = record { alone = turned_alone at pass is_p t; none = turned_none at is_p c.index.ensures t pass refl; here = turns_here at pass is_p (turns_none t refl) };
      time = λ d. c.time.ensures.2 ∙ turned_time at is_p c.index.ensures t pass refl d;
    }
