use Rattle.dash_stage.proofs.free.run_one.Goals as goal

pub returns-then-has_ended : goal.returns-then-has_ended
returns-then-has_ended g c = (c.run_by_clock.result, record { goes = c.run_by_clock.ensures.looped; loops = c.run_by_clock.ensures.rounds })

pub returns-else-has_ended : goal.returns-else-has_ended
returns-else-has_ended g c = (c.run_by_clock.result, record { goes = c.run_by_clock.ensures.looped; loops = c.run_by_clock.ensures.rounds })
