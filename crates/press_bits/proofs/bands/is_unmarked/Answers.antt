use Rattle.std.proofs.Common.{arith}
use Rattle.press_bits.proofs.BandLemmas.{row_dot-nothing}
use Rattle.press_bits.proofs.bands.is_unmarked.Goals as goal

pub returns-in-None : goal.returns-in-None
returns-in-None c = grind (arith, row_dot-nothing)
