use Rattle.std.proofs.Common.{rules, ◌≡◌, ◌+◌}
use Rattle.loop_sources.specs.declared.idle.IdleTurn.{IdleTurn}
use Rattle.std.proofs.Common.{refl}
use Rattle.loop_sources.proofs.Serials.{numbered-push}
use Rattle.loop_sources.proofs.idle.IdleSet.add.Goals as goal

pub invariant_of-self-2 : goal.invariant_of-self-2
invariant_of-self-2 c =
    let turn : IdleTurn = record { serial = c.self.inside.added; id = c.args.id; keep = c.args.keep } in
    let next : c.in-Some.added ≡ c.self.inside.added + 1 = search rules in
    rw (c.in_ok-push.ensures.items, next) (numbered-push c.self.inside.handlers.items c.self.inside.added turn refl c.self.invariant)
