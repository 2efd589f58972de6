use Rattle.std.proofs.Common.{rules, arith, ◌≡◌, ◌∷◌, [], ℕ, Some, sym, ap, ◌∙◌, subst}
use Rattle.choreographer.specs.Plays.{Sat, MaySeal, MayPulse}
use Rattle.choreographer.specs.Known.{Pass}
use Rattle.choreographer.proofs.ByTurn.{turned, begin_gives, keeps_handed, may_pulse}
use Rattle.choreographer.proofs.Stamps.{stamped_begin}
use Rattle.choreographer.proofs.Clock.{backs_late}
use Rattle.choreographer.proofs.Waits.{begun_asks}
use Rattle.choreographer.proofs.Wanting.{begun_wanted}
use Rattle.choreographer.proofs.table.Choreographer.begin_turn.Goals as goal

pub give-requires-clause-leaves : goal.give-requires-clause-leaves
give-requires-clause-leaves g c = record {
  state = (
      let x = c.take-state.result in
      let y = c.begin_frame-answer.new.self in
      (search rules, begin_gives c.take-state.new.seat.me.0 x y c.args.start c.begin_frame-answer.result (search rules) c.begin_frame-answer.ensures.steps c.begin_frame-answer.ensures.begins));
  stamped = stamped_begin c.take-state.result c.begin_frame-answer.new.self c.take-state.ensures.found.stamped c.args.start c.begin_frame-answer.result c.begin_frame-answer.ensures.begins c.begin_frame-answer.ensures.stamp;
  handed = (
      let x = c.take-state.result in
      subst (λ (z : Sat). MaySeal c.args.self.now.constants z.0 c.begin_frame-answer.new.self) (sym c.take-state.ensures.taken)
      (keeps_handed c.args.self.now.constants c.pass.inside.seat.me.0 x c.begin_frame-answer.new.self c.take-state.new.seat.me.0.heard c.begin_frame-answer.ensures.steps.0));
  latest = subst (λ (z : Sat). MayPulse c.args.self.now.constants z.0 c.begin_frame-answer.new.self) (sym c.take-state.ensures.taken)
      (may_pulse c.args.self.now.constants c.pass.inside.seat.me.0 c.take-state.result c.begin_frame-answer.new.self c.take-state.new.seat.me.0.heard c.pass.inside.number c.pass.invariant.2
      (λ n named. ap (λ (p : Pass). p.number) c.pass.view_is ∙ c.requires.begins.0 n named));
  asks = begun_asks c.take-state.result c.begin_frame-answer.new.self c.args.self.now.constants c.args.start c.begin_frame-answer.result c.begin_frame-answer.ensures.begins
      (λ n named.
      let is : c.args.pass.now.number ≡ n = c.requires.begins.0 n named in
      let only : c.pass.inside.seat.me.0.passes ≡ n ∷ [] = c.pass.invariant.2 ∙ ap (λ (k : ℕ). k ∷ []) (ap (λ (p : Pass). p.number) c.pass.view_is ∙ is) in
      (c.take-state.ensures.found.latest n named only).1
      ∙ (ap (λ (p : Pass). p.view.awaits) c.pass.view_is ∙ c.requires.begins.1 c.args.self.now.constants c.requires.pass.1 (named ∙ ap Some (sym is))))
      c.take-state.ensures.found.asks;
  wanted = begun_wanted c.args.self.now.constants c.take-state.result c.begin_frame-answer.new.self c.take-state.ensures.found.wanted c.args.start c.begin_frame-answer.result c.take-state.ensures.found.stamped.interval c.begin_frame-answer.ensures.fits
      c.begin_frame-answer.ensures.begins c.begin_frame-answer.ensures.stamp
      (λ n named.
      let is : c.args.pass.now.number ≡ n = c.requires.begins.0 n named in
      let only : c.pass.inside.seat.me.0.passes ≡ n ∷ [] = c.pass.invariant.2 ∙ ap (λ (k : ℕ). k ∷ []) (ap (λ (p : Pass). p.number) c.pass.view_is ∙ is) in
      (c.take-state.ensures.found.latest n named only).1
      ∙ (ap (λ (p : Pass). p.view.awaits) c.pass.view_is ∙ c.requires.begins.1 c.args.self.now.constants c.requires.pass.1 (named ∙ ap Some (sym is))));
}

pub returns-clause-turn : goal.returns-clause-turn
returns-clause-turn g c =
    let x = c.take-state.result in
    let y = c.begin_frame-answer.new.self in
    let t = c.take-state.ensures in (
      x,
      y,
      turned c.args.self.now.constants (record { table = c.pass.inside.seat.table_id; number = c.pass.inside.number; view = c.pass.inside.seat.me.0 }) c.args.pass.now _ x y c.take-state.new.seat.me c.give.new.seat.me
          c.pass.view_is c.requires.pass.1 c.pass.invariant.2 c.pass.invariant.3 t.taken t.found.state t.found.heard t.found.latest (search rules) (c.begin_frame-answer.ensures.steps.1) (c.give.ensures.2, c.give.ensures.3) (search rules),
      search rules,
      search rules,
    )

pub returns-clause-clock : goal.returns-clause-clock
unfolding returns-clause-turn
returns-clause-clock g c =
    let t = returns-clause-turn g c in
    backs_late c.take-state.result c.begin_frame-answer.new.self c.args.start _ c.begin_frame-answer.result c.take-state.ensures.found.stamped (omega (arith, c.ranges.start)) t.3 t.2.seen
