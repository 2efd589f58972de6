use Rattle.std.proofs.Common.{◌≡◌}
use Rattle.dash_hall.specs.Growth.{QuitsOf}
use Rattle.looper_run.specs.Holding.{Sender}
use Rattle.dash_stage.proofs.Controller.Controlling.{in_queues, in_posters, has_poster, own_poster, in_pool, stands_there, none_rung}
use Rattle.dash_stage.proofs.Controller.ControlTurns.{with_poster, called_alone}
use Rattle.dash_stage.proofs.control.Controller.quit_now.Goals as goal

pub index-requires : goal.index-requires
index-requires g c = in_queues c.requires.at

pub index_mut-requires : goal.index_mut-requires
index_mut-requires g c = in_posters c.requires.at

pub quit_by-requires : goal.quit_by-requires
quit_by-requires g c = let at = c.requires.at in
    record { queue = (own_poster at c.index_mut.ensures.value c.index.ensures).0; pass = at.controller.pass; home = in_pool at c.index.ensures }

pub returns-in_default : goal.returns-in_default
returns-in_default g c =
    let at = c.requires.at in
    let is_p = c.index_mut.ensures.value in
    let alone = called_alone at c.quit_by.new.pass is_p c.quit_by.ensures.on in
    record {
      alone = alone;
      here = λ done. absurd cc;
      bells = none_rung c.args.place c.args.self.now (with_poster c.args.self.now c.args.place c.quit_by.new.poster c.quit_by.new.pass) alone.elsewhere
          (stands_there c.args.self.now.kit.posters.items c.args.place c.index_mut.result.now c.quit_by.new.poster (has_poster at) is_p (λ (a b : Sender). b.view.rung ≡ a.view.rung) c.quit_by.ensures.on.rung);
    }

pub returns : goal.returns
returns g c =
    let at = c.requires.at in
    let is_p = c.index_mut.ensures.value in
    let alone = called_alone at c.quit_by.new.pass is_p c.quit_by.ensures.on in
    let there = stands_there c.args.self.now.kit.posters.items c.args.place c.index_mut.result.now c.quit_by.new.poster (has_poster at) is_p in
    record {
      alone = alone;
      here = λ done. there (λ (a b : Sender). QuitsOf a b c.args.safe c.args.now) c.in-Ok.ensures.quit;
      bells = none_rung c.args.place c.args.self.now (with_poster c.args.self.now c.args.place c.quit_by.new.poster c.quit_by.new.pass) alone.elsewhere (there (λ (a b : Sender). b.view.rung ≡ a.view.rung) c.quit_by.ensures.on.rung);
    }
