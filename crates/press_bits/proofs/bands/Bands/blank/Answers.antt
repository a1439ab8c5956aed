use Rattle.std.proofs.Common.{rules}
use Rattle.press_bits.proofs.BandLemmas.{white_bands, blank_has}
use Rattle.press_bits.proofs.bands.Bands.blank.Goals as goal

pub returns : goal.returns
returns c = white_bands _ _ _ (search rules)

pub invariant_of-result : goal.invariant_of-result
invariant_of-result c = blank_has c.args.width c.args.height _ c.requires (search rules)
