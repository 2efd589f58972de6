use Rattle.frame_phases.proofs.TakeOrder as law
use Rattle.frame_phases.proofs.laws.phases_take_in_order.Goals as goal

pub returns : goal.returns
returns c = law.phases_take_in_order
