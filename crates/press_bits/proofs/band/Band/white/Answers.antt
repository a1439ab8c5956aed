use Rattle.std.proofs.Common.{subst, sym, arith}
use Rattle.press_bits.specs.Bands.{HasDotsIn}
use Rattle.press_bits.proofs.DotRowsLemmas.{row_dot-replicate_zero}
use Rattle.press_bits.proofs.band.Band.white.Goals as goal

pub invariant_of-result : goal.invariant_of-result
invariant_of-result c = subst (HasDotsIn _) (sym c.in_ok-white_bytes.ensures) (record { within = omega arith; white = λ p _. row_dot-replicate_zero c.args.count p })
