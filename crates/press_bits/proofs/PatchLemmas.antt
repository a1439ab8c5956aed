-- Patches that are laid over a page.
use Rattle.std.proofs.Common.{◌-◌, ◌*◌, ◌≤◌, ◌&&◌, arith, ◌≡◌, ℕ, ◌<◌, Bool, true, cond, List, [], ◌∷◌, sym, ◌∙◌}
use Rattle.std.specs.Prelude.{nat_lt, nat_le}
use Rattle.std.proofs.lemmas.Bool.Decides.{nat_tests}
use Rattle.press_bits.specs.Page.{Page, HasNoDotOutside, black_at, page_where}
use Rattle.press_bits.specs.Patches.{DifferIn, Patch, Patched, PatchedBy, RowsOf, is_in, patch_dot, laid_over, all_laid_over}
use Rattle.press_bits.specs.declared.region.Region.{Region}
use Rattle.press_bits.proofs.LineLemmas.{row_dot-slice}
use Rattle.press_bits.proofs.PageLemmas.{page_where_alike, page_where_itself}

-- a page with its patch laid over it is the page after
pub laid_over_is : (before after : Page) (patch : Patch) → Patched before patch after → laid_over before patch ≡ after
unfolding laid_over
laid_over_is before after patch patched =
    let rule : ℕ → ℕ → Bool = λ x y. cond (is_in patch.region x y) (patch_dot patch x y) (black_at before x y) in
    (λ i. page_where (sym patched.differ.width i) (sym patched.differ.height i) rule)
    ∙ page_where_alike after.width after.height rule (black_at after)
    (λ x y wide high. grind (arith, patched.inside x y wide high, patched.differ.outside x y))
    ∙ page_where_itself after patched.whole

pub patches_are_the_page : (before after : Page) (patches : List Patch) → PatchedBy before patches after → all_laid_over before patches ≡ after
patches_are_the_page before after [] same = same
patches_are_the_page before after (patch ∷ patches) steps = grind (arith, laid_over_is before steps.0 patch steps.1, patches_are_the_page steps.0 after patches steps.2)

inside_area : (top bottom left right x y : ℕ) → ((nat_le top y && nat_lt y bottom) && (nat_le (8 * left) x && nat_lt x (8 * right))) ≡ true →
    (top ≤ y) × (y < bottom) × (8 * left ≤ x) × (x < 8 * right)
inside_area top bottom left right x y test = grind (arith, nat_tests)

-- the rows of a region in which alone a page changed
pub rows_are_the_patch : (before after : Page) (region : Region) (rows : List (List ℕ)) → DifferIn before after region → RowsOf after region rows → HasNoDotOutside after →
    Patched before (record { region = region; rows = rows }) after
rows_are_the_patch before after region rows differ rows_of none = record {
  differ = differ;
  inside = λ x y wide high test.
      let within = inside_area region.top region.bottom region.left region.right x y test in
      let found = rows_of.each y within.0 within.1 in
      grind (arith, found.1.dots x wide, row_dot-slice found.0 region.left (region.right - region.left) (x - 8 * region.left), found.2);
  whole = none;
}
