use Rattle.std.proofs.Common.{arith}
use Rattle.press_bits.proofs.RegionLemmas.{covers_all}
use Rattle.press_bits.proofs.changes.changed.Goals as goal

pub returns : goal.returns
returns c = grind (arith, covers_all)
