use Rattle.std.proofs.Common.{List, sym, ◌∙◌, subst, ap, ℕ, ◌+◌}
use Rattle.loop_model.specs.declared.entry.Entry.{Entry}
use Rattle.dash_loopers.specs.Played.{calls_of, Delivers}
use Rattle.std.specs.Prelude.{OnOk}
use Rattle.looper_run.specs.Holding.{held}
use Rattle.looper_run.proofs.Rings.{lent_rung}
use Rattle.dash_loopers.proofs.LooperByClock.{calls_rung}
use Rattle.dash_loopers.proofs.LooperClock.{delivers_rung}
use Rattle.dash_loopers.proofs.player.Place.deliver_and_ring.Goals as goal

pub returns-clause-lent : goal.returns-clause-lent
returns-clause-lent g c = lent_rung (held c.args.own.now) (held c.deliver-done.new.own) c.nudge.new.self c.deliver-done.ensures.leaves.own.lent c.nudge.ensures.same.0 c.nudge.ensures.same.1 c.nudge.ensures.same.2

pub returns-clause-rung : goal.returns-clause-rung
returns-clause-rung g c = c.nudge.ensures.rung ∙ ap (λ (n : ℕ). n + 1) c.deliver-done.ensures.leaves.own.rung

pub nudge-requires-after_bounds : goal.nudge-requires-after_bounds
nudge-requires-after_bounds g c κs within =
    let same = c.deliver-done.ensures.leaves.own.lent.same in
    let of = c.requires.serves.place.queue c.queue.result.now c.queue.ensures in
    (same.table ∙ of.0, same.constants ∙ of.1)

pub returns-clause-delivers : goal.returns-clause-delivers
returns-clause-delivers g c =
    let place = c.args.self.now in
    subst (λ (es : List Entry). OnOk c.deliver-done.result (Delivers place.script.now place.looper c.args.now (g.U.Uptime.is_moment c.args.uptime.now) c.args.p.now (calls_of c.args.own.now.poster.now) es c.args.parts.now c.deliver-done.new.parts c.args.own.now.journal.now.acts c.deliver-done.new.own.journal.now.acts))
    (sym (calls_rung c.deliver-done.new.own.poster.now c.nudge.new.self c.nudge.ensures.same.0 c.nudge.ensures.same.1)) c.deliver-done.ensures.delivers

pub returns-clause-clocked : goal.returns-clause-clocked
returns-clause-clocked g c =
    delivers_rung c.args.self.now.looper c.args.now c.args.p.now c.args.own.now.poster.now c.deliver-done.new.own.poster.now c.nudge.new.self c.args.parts.now c.deliver-done.new.parts c.nudge.ensures.same.1 c.deliver-done.ensures.clocked
