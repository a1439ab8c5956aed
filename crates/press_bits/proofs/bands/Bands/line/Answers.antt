use Rattle.std.proofs.Common.{arith}
use Rattle.press_bits.proofs.BandLemmas.{width-page_of_bands}
use Rattle.press_bits.proofs.MixLemmas.{line_before}
use Rattle.press_bits.proofs.bands.Bands.line.Goals as goal

pub slice_bounds-result-end : goal.slice_bounds-result-end
slice_bounds-result-end c = grind (arith, width-page_of_bands, line_before)

pub returns : goal.returns
returns c = grind (arith, width-page_of_bands)
