use Rattle.std.proofs.Common.{true}
use Rattle.dash_stage.proofs.Controller.Controlling.{in_queues, in_posters, own_poster, in_pool}
use Rattle.dash_threads.proofs.ThreadRuns.{on_ok}
use Rattle.dash_stage.proofs.Controller.ControlTurns.{turned_quit, turns_quit, turns_here, called_alone}
use Rattle.dash_stage.proofs.control.Controller.quit_one.Goals as goal

pub index-requires : goal.index-requires
index-requires g c = in_queues c.requires.at

pub index_mut-requires : goal.index_mut-requires
index_mut-requires g c = in_posters c.requires.at

pub quit_by-requires : goal.quit_by-requires
quit_by-requires g c = let at = c.requires.at in
    record { queue = (own_poster at c.index_mut.ensures.value c.index.ensures).0; pass = at.controller.pass; home = in_pool at c.index.ensures }

pub returns : goal.returns
returns g c =
    let at = c.requires.at in
    let is_p = c.index_mut.ensures.value in
    let pass = c.quit_by.new.pass in
    record {
      alone = called_alone at pass is_p c.quit_by.ensures.on;
      quits = on_ok c.quit_by.result _ _
          (λ quits. record {
            quitting = turned_quit at is_p c.index.ensures quits.2.2 pass quits.0 quits.1 quits.2.3 c.requires.time c.requires.quitting;
            here = turns_here at pass is_p (turns_quit c.index_mut.result.now c.quit_by.new.poster true c.args.script.now.end quits);
          })
          c.quit_by.ensures.quit;
    }
