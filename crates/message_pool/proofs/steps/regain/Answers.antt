use Rattle.std.proofs.Common.{arith, ap, ◌∙◌}
use Rattle.message_pool.proofs.Keeps.{regains}
use Rattle.message_pool.proofs.steps.regain.Goals as goal

pub join_seat-requires : goal.join_seat-requires
join_seat-requires g c = let lent = c.requires.other.1 in
    (c.requires.seat.0.0, c.requires.other.0 ∙ c.requires.seat.0.0, ap (λ m. m.1) lent, omega (arith, c.requires.seat.0.1.0), regains _ _ _ _ c.requires.seat.1 (ap (λ m. m.0) lent))
