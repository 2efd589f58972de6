use Rattle.std.proofs.Common.{refl, arith}
use Rattle.std.specs.Prelude.{◌==◌}
use Rattle.looper_run.specs.Holding.{held}
use Rattle.run_model.specs.FrameRecords.{nanos_of}
use Rattle.loop_model.specs.declared.journal.Route.TheVariants.{Callback}
use Rattle.message_slot.specs.Letter.{post_of}
use Rattle.dash_loopers.specs.Played.{calls_of}
use Rattle.looper_run.proofs.Working.{lent_self}
use Rattle.looper_run.proofs.Keeping.{lent_nothing}
use Rattle.dash_loopers.proofs.LooperPlaying.{playing_dispatch, delivers_none}
use Rattle.dash_loopers.proofs.player.PlayerDispatcher.run_callback.Goals as goal

pub returns-then-is_stopped-clause-keeps : goal.returns-then-is_stopped-clause-keeps
returns-then-is_stopped-clause-keeps g c = lent_nothing _ _ _ _ c.args.self.now c.args.self.now c.args.own.now (λ w h. h) refl refl refl

pub returns-clause-keeps : goal.returns-clause-keeps
returns-clause-keeps g c = lent_nothing _ _ _ _ c.args.self.now (record c.args.self.now { dispatched = c.max-self.result }) c.args.own.now (λ w h. h) refl refl refl

pub returns-clause-routed : goal.returns-clause-routed
returns-clause-routed g c =
    let p = c.args.self.now in
    let h = held c.args.own.now in
    let kept = c.max-self.ensures in
    record {
      awaits = refl;
      meets = playing_dispatch p.place.script.now p.place.looper p.now p.began.now.value p.dispatched c.max-self.result c.args.now c.args.m.now (Callback c.args.id) h h p.parts p.parts (omega (arith, kept)) (omega (arith, kept)) (lent_self h) c.requires.ready.taken
          (delivers_none p.place.script.now p.place.looper p.now p.began.now.value c.args.now (λ n. n == nanos_of c.args.now) (post_of c.args.m.now.item) c.args.id (calls_of h.poster) p.parts h.journal.acts c.requires.ready.callback);
    }
