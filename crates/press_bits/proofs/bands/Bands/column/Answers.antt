use Rattle.std.proofs.Common.{◌+◌, ◌*◌, subst, arith}
use Rattle.press_bits.specs.Bands.{BandedPage}
use Rattle.press_bits.specs.Page.{HasNoDotOutside, black_at}
use Rattle.press_bits.proofs.BandLemmas.{width-page_of_bands, height-page_of_bands, no_dot_outside}
use Rattle.press_bits.proofs.ColumnLemmas.{band_column, none_of_eight}
use Rattle.press_bits.proofs.bands.Bands.column.Goals as goal
use Rattle.press_bits.proofs.bands.Bands.column.Goals.{then-x-self-via-then-x-self, then-x-self-via-else-x-self+then-index-div_ceil}

pub returns-then-x-self : goal.returns-then-x-self
returns-then-x-self c =
    let page = c.args.self.now.page in
    let none : HasNoDotOutside page = subst (λ (b : BandedPage). HasNoDotOutside b.page) c.self.view_is (no_dot_outside _ _ _) in
    none_of_eight (black_at page c.args.x) (8 * c.args.index)
    (λ j few. grind (arith, width-page_of_bands, height-page_of_bands, none.inside c.args.x (8 * c.args.index + j), c.then-x-self.branch))

pub returns : goal.returns
returns c = grind (arith, band_column)
