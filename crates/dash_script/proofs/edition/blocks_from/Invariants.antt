use Rattle.std.proofs.Common.{◌≡◌, take, map}
use Rattle.dash_script.specs.FromEdition.{block_from}
use Rattle.dash_script.proofs.edition.blocks_from.Given as goal

abbrev pub invariant-loop-block : goal.invariant-loop-block
invariant-loop-block l = l.out.items ≡ map (block_from l.edition) (take l.block-index l.blocks)
