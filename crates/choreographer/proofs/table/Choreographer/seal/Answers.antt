use Rattle.std.proofs.Common.{rules, ◌+◌, refl, sym, ap, ◌∙◌, subst, arith}
use mathlib.Core.List.{IsPrefix}
use Rattle.loop_model.proofs.Prefixes.{prefix_self}
use Rattle.choreographer.specs.Plays.{Sat, MaySeal}
use Rattle.choreographer.specs.Known.{Pass, IsFrameTurn}
use Rattle.choreographer.proofs.ByTurn.{turned, keeps_pulse, holds_last, may_seal, same_gives, hands_more, part_handed}
use Rattle.choreographer.proofs.Stamps.{stamped_sealed}
use Rattle.choreographer.specs.Frame.{GrowsQuietly}
use Rattle.choreographer.proofs.Quiet.{grows_self}
use Rattle.choreographer.proofs.Waits.{sealed_waits}
use Rattle.choreographer.proofs.Wanting.{sealed_wanted}
use Rattle.choreographer.proofs.table.Choreographer.seal.Goals as goal

pub give-requires-clause-leaves : goal.give-requires-clause-leaves
give-requires-clause-leaves g c = record {
  state = (search rules, same_gives c.take-state.new.seat.me.0 c.take-state.result c.seal-answer.new.self (search rules) c.seal-answer.ensures.quiet.1);
  stamped = stamped_sealed c.take-state.result c.seal-answer.new.self c.take-state.ensures.found.stamped c.seal-answer.result c.seal-answer.ensures.seals c.seal-answer.ensures.stamp;
  handed = (
      let x = c.take-state.result in
      subst (λ (z : Sat). MaySeal c.args.self.now.constants z.0 c.seal-answer.new.self) (sym c.take-state.ensures.taken)
      (may_seal c.args.self.now.constants c.pass.inside.seat.me.0 x c.seal-answer.new.self c.take-state.new.seat.me.0.heard c.pass.inside.number c.pass.invariant.2 (ap (λ (p : Pass). p.number + 1) c.pass.view_is ∙ c.requires.last) (hands_more x.frames c.seal-answer.new.self.frames c.seal-answer.result c.seal-answer.ensures.seals)));
  latest = keeps_pulse c.args.self.now.constants c.pass.inside.seat.me.0 c.take-state.result c.seal-answer.new.self c.take-state.new.seat.me c.take-state.ensures.taken c.seal-answer.ensures.stamp (sealed_waits c.take-state.result c.seal-answer.new.self c.seal-answer.result c.seal-answer.ensures.seals) c.take-state.ensures.found.asks
      (subst (GrowsQuietly c.take-state.result.frames.entries) (sym c.seal-answer.ensures.quiet.1) (grows_self c.take-state.result.frames.entries));
  asks = (sealed_waits c.take-state.result c.seal-answer.new.self c.seal-answer.result c.seal-answer.ensures.seals).asks c.args.self.now.constants c.take-state.ensures.found.asks;
  wanted = sealed_wanted c.args.self.now.constants c.take-state.result c.seal-answer.new.self c.take-state.ensures.found.wanted c.seal-answer.result c.seal-answer.ensures.seals c.seal-answer.ensures.stamp;
}

pub returns : goal.returns
returns g c =
    let x = c.take-state.result in
    let y = c.seal-answer.new.self in
    let is = c.pass.view_is in
    let t = c.take-state.ensures in
    let inside : Pass = record { table = c.pass.inside.seat.table_id; number = c.pass.inside.number; view = c.pass.inside.seat.me.0 } in
    let turn : IsFrameTurn c.args.pass.now (record { table = inside.table; number = inside.number; view = c.give.new.seat.me.0 }) x y = turned c.args.self.now.constants inside c.args.pass.now _ x y c.take-state.new.seat.me c.give.new.seat.me is c.requires.pass.1
    c.pass.invariant.2 c.pass.invariant.3 t.taken t.found.state t.found.heard t.found.latest (search rules) (subst (IsPrefix x.frames.entries) (sym c.seal-answer.ensures.quiet.1) (prefix_self x.frames.entries))
    (c.give.ensures.2, c.give.ensures.3) refl in (
      x,
      y,
      subst (λ (p : Pass). IsFrameTurn c.args.pass.now p x y) (search rules) turn,
      c.seal-answer.ensures.seals,
      c.seal-answer.ensures.stamp,
      c.take-state.ensures.found.handed (let one = holds_last c.args.self.now.constants c.pass.inside.seat.me.0 c.pass.inside.number c.pass.invariant.2 (ap (λ (p : Pass). p.number + 1) is ∙ c.requires.last) in omega (arith, one)) ∙ ap (λ (p : Pass). p.view.handed) is,
      part_handed c.args.pass.now x.frames y.frames c.seal-answer.result c.seal-answer.ensures.seals _ turn.handed,
    )
