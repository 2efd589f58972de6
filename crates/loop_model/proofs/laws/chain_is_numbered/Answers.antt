use Rattle.loop_model.proofs.NumberLaws.{chain_numbered, parts_numbered}
use Rattle.loop_model.proofs.laws.chain_is_numbered.Goals as goal

pub returns : goal.returns
returns c = (λ s b ps m c. (parts_numbered s b ps m c, chain_numbered s b ps m c))
