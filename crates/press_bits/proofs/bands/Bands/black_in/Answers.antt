use Rattle.std.proofs.Common.{◌/◌, refl, ◌∙◌, arith}
use Rattle.press_bits.specs.Bands.{band_at}
use Rattle.press_bits.proofs.BandLemmas.{height-page_of_bands, unmarked_line}
use Rattle.press_bits.proofs.CountLemmas.{count-line}
use Rattle.press_bits.proofs.bands.Bands.black_in.Goals as goal

pub returns-then-is_unmarked : goal.returns-then-is_unmarked
returns-then-is_unmarked c =
    grind (arith, height-page_of_bands, unmarked_line c.self.inside.width c.self.inside.height c.args.y c.self.inside.bands.items (band_at c.self.inside.bands.items (c.args.y / 64)) refl c.self.invariant)

pub returns : goal.returns
returns c = c.count_black.ensures.count ∙ count-line c.args.self.now.page c.args.y c.line.result.now c.line.ensures
