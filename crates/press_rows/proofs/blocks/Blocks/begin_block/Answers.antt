use Rattle.std.proofs.Common.{arith}
use Rattle.press_rows.proofs.BlockLemmas.{items-behind, items-none, block-other}
use Rattle.press_rows.proofs.blocks.Blocks.begin_block.Goals as goal

pub returns-in-Some-clause-left : goal.returns-in-Some-clause-left
returns-in-Some-clause-left c = grind (arith, items-behind)

pub returns-clause-left : goal.returns-clause-left
returns-clause-left c = grind (arith, block-other, items-none)
