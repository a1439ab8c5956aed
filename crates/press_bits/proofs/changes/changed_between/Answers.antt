use Rattle.std.proofs.Common.{inr, arith}
use Rattle.press_bits.proofs.RegionLemmas.{covers_all, covers_rest}
use Rattle.press_bits.proofs.changes.changed_between.Goals as goal

pub returns : goal.returns
returns c = grind (arith, covers_all, covers_rest, inr)
