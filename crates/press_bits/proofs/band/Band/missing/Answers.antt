use Rattle.std.proofs.Common.{subst, sym, arith}
use Rattle.press_bits.specs.Bands.{HasDotsIn}
use Rattle.press_bits.proofs.BandLemmas.{row_dot-nothing}
use Rattle.press_bits.proofs.band.Band.missing.Goals as goal

pub invariant_of-result : goal.invariant_of-result
invariant_of-result c = subst (HasDotsIn _) (sym c.new.ensures.items) (record { within = omega arith; white = λ p _. row_dot-nothing p })
