use Rattle.std.proofs.Common.{refl, ap}
use Rattle.handler_post.specs.declared.handler.Handler.{Handler}
use Rattle.dash_loopers.proofs.LooperLent.{host_begins}
use Rattle.dash_loopers.proofs.player.Place.host.Goals as goal

pub returns : goal.returns
returns g c = record {
  host = record {
    by_poster = (refl, refl);
    by_pass = (refl, refl);
    began = c.requires.began;
    moment = (refl, ap (λ (h : Handler). h.id) c.frame_handler.ensures);
    uptime_is = refl;
    ready = host_begins c.args.self.now.script.now c.args.self.now.hall.now c.args.self.now.looper c.queue.result.now c.args.poster.now c.args.began.now.value c.args.pass.now c.args.pass_began.now.value c.args.poster.ghost_name c.args.pass.ghost_name c.frame_handler.result.id c.args.now c.args.uptime.now
        c.requires.at.looper c.queue.ensures c.requires.at.place c.requires.began.0 c.requires.began.1;
  };
}
