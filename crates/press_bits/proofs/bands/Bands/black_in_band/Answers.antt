use Rattle.std.proofs.Common.{◌≡◌, ℕ, ◌+◌, ◌-◌, ◌*◌, ◌/◌, ◌≤◌, min, refl, arith}
use Rattle.press_bits.specs.Page.{black_at, black_in_line, longest_side}
use Rattle.press_bits.specs.Bands.{band_at}
use Rattle.press_bits.proofs.CountLemmas.{sum_more, sum_none, sum_bound, count_bound}
use Rattle.press_bits.proofs.BandLemmas.{height-page_of_bands, width-page_of_bands, none_black}
use Rattle.press_bits.proofs.bands.Bands.black_in_band.Goals as goal

pub returns-then-not-has_band : goal.returns-then-not-has_band
returns-then-not-has_band c =
    let page = c.args.self.now.page in
    let items = c.self.inside.bands.items in
    let high : page.height ≡ c.self.inside.height = grind (arith, height-page_of_bands) in
    let white = sum_none (black_in_line page) (64 * c.args.index) (min page.height (64 * (c.args.index + 1)) - 64 * c.args.index) (λ y from before.
    grind (arith, none_black c.self.inside.width c.self.inside.height y items (band_at items (y / 64)) refl (grind arith) c.self.invariant, c.self.view_is)) in
    grind (arith, white)

pub black_in-black-requires-clause-inside : goal.black_in-black-requires-clause-inside
black_in-black-requires-clause-inside c = grind (arith, height-page_of_bands)

pub black_in-black-requires-clause-narrow : goal.black_in-black-requires-clause-narrow
black_in-black-requires-clause-narrow c = grind (arith, width-page_of_bands)

pub overflow_add-black : goal.overflow_add-black
overflow_add-black c =
    let page = c.args.self.now.page in
    let each : (y : ℕ) → black_in_line page y ≤ longest_side = λ y. grind (arith, width-page_of_bands, count_bound (λ x. black_at page x y) page.width) in
    grind (arith, sum_bound (black_in_line page) longest_side c.loop-y.y each, each c.loop-y.y)

pub loop-y-preserved : goal.loop-y-preserved
loop-y-preserved c = omega (arith, c.black_in-black.ensures, c.loop-y.invariant, sum_more (black_in_line c.args.self.now.page) c.loop-y.y)

pub returns : goal.returns
returns c = grind (arith, height-page_of_bands)
