use Rattle.std.proofs.Common.{arith}
use Rattle.std.proofs.Math.Seq.{take-append_seam}
use Rattle.std.proofs.lemmas.List.{length-replicate}
use Rattle.press_bits.proofs.DotRowsLemmas.{row_dot-replicate_zero}
use Rattle.press_bits.proofs.band.Band.whitened.Goals as goal

pub invariant_of-result : goal.invariant_of-result
invariant_of-result c = grind (arith, length-replicate, take-append_seam, row_dot-replicate_zero)
