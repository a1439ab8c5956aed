use Rattle.std.proofs.Common.{◌≡◌, ℕ, ◌+◌, ◌-◌, ◌*◌, ◌/◌, ◌≤◌, ◌<◌, min, List, refl, subst, arith}
use Rattle.std.proofs.lemmas.List.{get_or_past}
use Rattle.press_bits.specs.Page.{HasNoDotOutside, black_at, black_in_line, longest_side}
use Rattle.press_bits.specs.Bands.{BandedPage, band_at}
use Rattle.press_bits.proofs.CountLemmas.{sum_bound, sum_none, count_bound, count_black-lines}
use Rattle.press_bits.proofs.BandLemmas.{height-page_of_bands, width-page_of_bands, no_dot_outside, none_black}
use Rattle.press_bits.proofs.bands.Bands.count_black.Goals as goal

pub black_in_band-black-requires : goal.black_in_band-black-requires
black_in_band-black-requires c = grind (arith, height-page_of_bands)

-- the lines above a band that is a band of the page
above : (black next : ℕ) (all : ℕ → ℕ) (high index : ℕ) → 64 * index < high → black ≡ all (min high (64 * index))
    → all (min high (64 * (index + 1))) ≡ all (64 * index) + next → black + next ≡ all (min high (64 * (index + 1)))
above black next all high index inside so_far more = grind (arith, so_far, more)

pub overflow_add-black : goal.overflow_add-black
overflow_add-black c =
    let page = c.args.self.now.page in
    grind (
      arith,
      width-page_of_bands,
      height-page_of_bands,
      above,
      sum_bound (black_in_line page) longest_side (min page.height (64 * (c.loop-index.index + 1)))
          (λ y. grind (arith, width-page_of_bands, count_bound (λ x. black_at page x y) page.width)),
    )

pub loop-index-preserved : goal.loop-index-preserved
loop-index-preserved c = grind (arith, height-page_of_bands, above)

pub returns : goal.returns
returns c =
    let page = c.args.self.now.page in
    let items : List (List ℕ) = c.self.inside.bands.items in
    let high : c.self.inside.height ≡ page.height = grind (arith, height-page_of_bands) in
    let none : HasNoDotOutside page = subst (λ (b : BandedPage). HasNoDotOutside b.page) c.self.view_is (no_dot_outside _ _ _) in
    let counted : ℕ = min page.height (64 * c.loop-index.index) in
    let white : (y : ℕ) → counted ≤ y → y < counted + (page.height - counted) → black_in_line page y ≡ 0 = λ y from before.
    grind (arith, none_black c.self.inside.width c.self.inside.height y items (band_at items (y / 64)) refl (grind (arith, get_or_past)) c.self.invariant, c.self.view_is) in
    grind (arith, c.loop-index.invariant, sum_none (black_in_line page) counted (page.height - counted) white, count_black-lines page none)
