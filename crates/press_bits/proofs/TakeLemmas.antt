-- Lines of a page that are taken over from another one.
use Rattle.std.proofs.Common.{◌≡◌, ℕ, ◌+◌, ◌<◌, ◌≤◌, Bool, true, cond, ◌&&◌, List, refl, sym, ◌∙◌, inl, arith}
use Rattle.std.specs.Prelude.{nat_lt, nat_le, pos}
use Rattle.std.proofs.lemmas.Bool.Decides.{nat_tests}
use Rattle.press_bits.specs.Page.{Page, HasNoDotOutside, black_at, page_where}
use Rattle.press_bits.specs.Mark.{Row, Mark, painted, row_mark, eight_black}
use Rattle.press_bits.specs.Lines.{IsPageLine}
use Rattle.press_bits.specs.Patches.{DifferIn}
use Rattle.press_bits.specs.Changes.{with_lines}
use Rattle.press_bits.specs.declared.region.Region.{Region}
use Rattle.press_bits.specs.declared.mode.Mode.{Mode}
use Rattle.press_bits.proofs.MarkLemmas.{painted_by_effects, row_lands, repeated-eight_black}
use Rattle.press_bits.proofs.PageLemmas.{width-page_where, height-page_where, page_where-HasNoDotOutside, black_at-page_where, page_where_alike, page_where_itself}

abbrev pub opaque : Mode
opaque = record { source_opaque = true; pattern_opaque = true }

module _ (page other : Page) (first : ℕ) where
  pub width-with_lines : (end : ℕ) → (with_lines page other first end).width ≡ page.width
  unfolding with_lines
  width-with_lines end = width-page_where page.width page.height _

  pub height-with_lines : (end : ℕ) → (with_lines page other first end).height ≡ page.height
  unfolding with_lines
  height-with_lines end = height-page_where page.width page.height _

  with_lines-HasNoDotOutside : (end : ℕ) → HasNoDotOutside (with_lines page other first end)
  unfolding with_lines
  with_lines-HasNoDotOutside end = page_where-HasNoDotOutside page.width page.height _

  black_at-with_lines : (end x y : ℕ) → x < page.width → y < page.height →
      black_at (with_lines page other first end) x y ≡ cond (nat_le first y && nat_lt y end) (black_at other x y) (black_at page x y)
  unfolding with_lines
  black_at-with_lines end x y right below =
      black_at-page_where page.width page.height (λ x y. cond (nat_le first y && nat_lt y end) (black_at other x y) (black_at page x y)) x y right below

  pub with_no_lines : HasNoDotOutside page → with_lines page other first first ≡ page
  unfolding with_lines
  with_no_lines none =
      page_where_alike page.width page.height (λ x y. cond (nat_le first y && nat_lt y first) (black_at other x y) (black_at page x y)) (black_at page)
      (λ x y _ _. grind (arith, nat_tests))
      ∙ page_where_itself page none

  -- one more line
  pub line_taken : (y dots : ℕ) (bits : List ℕ) → dots ≡ page.width → other.width ≡ page.width → first ≤ y → IsPageLine other y bits →
      with_lines page other first (y + 1) ≡ painted (with_lines page other first y) (row_mark (pos 0) (pos y) (record { bits = bits; dots = dots }) eight_black opaque)
  line_taken y dots bits long wide from line =
      painted_by_effects before after mark (with_lines-HasNoDotOutside (y + 1))
      (grind (arith, width-with_lines)) (grind (arith, height-with_lines))
      (λ x n right below.
      grind (
        arith,
        nat_tests,
        width-with_lines,
        height-with_lines,
        black_at-with_lines,
        repeated-eight_black,
        line.dots x,
        row_lands (pos 0) (pos y) source eight_black opaque 0 0 page.width y page.width x n refl (inl refl) refl (omega (arith, long)),
      ))
    where
      before : Page
      before = with_lines page other first y

      after : Page
      after = with_lines page other first (y + 1)

      source : Row
      source = record { bits = bits; dots = dots }

      mark : Mark
      mark = row_mark (pos 0) (pos y) source eight_black opaque

-- where the pages agree but for the lines, it is the other page
pub all_taken : (page other : Page) (region : Region) → DifferIn page other region → HasNoDotOutside other → with_lines page other region.top region.bottom ≡ other
unfolding with_lines
all_taken page other region differ none =
    let rule : ℕ → ℕ → Bool = λ x y. cond (nat_le region.top y && nat_lt y region.bottom) (black_at other x y) (black_at page x y) in
    (λ i. page_where (sym differ.width i) (sym differ.height i) rule)
    ∙ page_where_alike other.width other.height rule (black_at other)
    (λ x y _ _. grind (arith, differ.outside x y))
    ∙ page_where_itself other none
