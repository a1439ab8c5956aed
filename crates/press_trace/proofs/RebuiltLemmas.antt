-- Pages rebuilt of what is told.
use Rattle.std.proofs.Common.{◌≡◌, ◌∙◌, ◌+◌, ◌-◌, ◌<◌, ℕ, List, [], ◌∷◌, take, Option, None, Some, inl, inr, refl, sym, ap, arith}
use Rattle.std.proofs.lemmas.Simd.{map-map}
use Rattle.std.proofs.lemmas.List.FromFn.{get_or-map-range_with_len}
use Rattle.press_bits.specs.Lines.{IsPageLine}
use Rattle.press_bits.specs.Page.{Page, HasNoDotOutside}
use Rattle.press_bits.specs.Patches.{RowsOf}
use Rattle.press_bits.specs.declared.region.Region.{Region}
use Rattle.press_bits.proofs.LineLemmas.{row_dot-past}
use Rattle.press_bits.proofs.PatchLemmas.{rows_are_the_patch, patches_are_the_page}
use Rattle.press_pbm.specs.Spelling.{line_bytes}
use Rattle.press_pbm.proofs.ReadBack.{length-line_bytes, row_dot-line_bytes}
use Rattle.serde_json.specs.Data.{Data}
use Rattle.press_bits.specs.Page.{blank}
use Rattle.press_bits.specs.Patches.{ChangedIn, laid_over}
use Rattle.press_engine.specs.declared.machine.Machine.{Machine}
use Rattle.press_trace.specs.Lines.{page_if}
use Rattle.press_trace.specs.Pages.{row_in, patch_data, size_data, IsPageTold, StartsFrom, Follows}
use Rattle.press_trace.specs.Places.{Placed}
use Rattle.press_trace.specs.Rebuilt.{RowsAreThePage, LinesRebuildThePages, PageStep, Stays, Closes, Lays, Opens, told_patch, patch_told, page_after, page_after_all, opened_member, page_member}
use Rattle.press_trace.specs.Traced.{last_of}

-- the bytes of a line are a line of the page
line_is : (page : Page) (y : ℕ) → HasNoDotOutside page → IsPageLine page y (line_bytes page y)
line_is page y none = grind (arith, length-line_bytes, row_dot-line_bytes, row_dot-past)

told_rows : (page : Page) (region : Region) → HasNoDotOutside page → RowsOf page region (told_patch page region).rows
told_rows page region none = record {
  each = λ y above below.
      let n = region.bottom - region.top in
      let inside : y - region.top < n = omega (arith, above, below) in
      let here : region.top + (y - region.top) ≡ y = omega (arith, above) in (
        line_bytes page y,
        line_is page y none,
        get_or-map-range_with_len (λ k. row_in region (line_bytes page k)) region.top n (y - region.top) y [] inside here,
      );
}

pub rows_are_the_page : RowsAreThePage
rows_are_the_page before after region changed none =
    let patched = rows_are_the_patch before after region (told_patch after region).rows changed.differ (told_rows after region none) none in
    patches_are_the_page before after (told_patch after region ∷ []) (after, patched, refl)

-- ---- a line, and all lines

-- the patch of a region is told as the region is
told_as_patch : (page : Page) (region : Region) → patch_data page region ≡ patch_told page.width (told_patch page region)
told_as_patch page region = grind (arith, map-map)

-- What is told of the open page is one step, which leads to the page after.
record Leads (before after : Option Page) (opened told : Option Data) : Type 0 where
  pub step : PageStep
  pub opened_is : opened ≡ opened_member step
  pub told_is : told ≡ page_member step before
  pub leads : page_after before step ≡ after

patch_leads : (before after : Page) (region : Region) → ChangedIn before after region → HasNoDotOutside after → (told : Option Data) → told ≡ Some (patch_data after region)
    → (told ≡ Some (patch_told before.width (told_patch after region))) × (laid_over before (told_patch after region) ≡ after)
patch_leads before after region changed none told is = grind (arith, told_as_patch, rows_are_the_page)

-- on the page before
follows_on : (from after : Page) (opened told : Option Data) → opened ≡ None → Follows from after told → Leads (Some from) (Some after) opened told
follows_on from after opened told none (inl (same, nothing)) = record { step = Stays; opened_is = none; told_is = nothing; leads = ap (λ (page : Page). Some page) same }
follows_on from after opened told none (inr (region, changed, inside, is)) =
    let leads = patch_leads from after region changed inside told is in
    record { step = Lays (told_patch after region); opened_is = none; told_is = leads.0; leads = ap (λ (page : Page). Some page) leads.1 }

-- on a white page
follows_white : (before : Option Page) (from after : Page) (opened told : Option Data) → after.width ≡ from.width → from ≡ blank after.width after.height
    → opened ≡ Some (size_data after) → Follows from after told → Leads before (Some after) opened told
follows_white before from after opened told wide white is (inl (same, nothing)) = record {
  step = Opens after.width after.height None;
  opened_is = is;
  told_is = nothing;
  leads = ap (λ (page : Page). Some page) (sym white ∙ same);
}
follows_white before from after opened told wide white is (inr (region, changed, inside, says)) =
    let patch = told_patch after region in
    let leads = patch_leads from after region changed inside told says in
    record {
      step = Opens after.width after.height (Some patch);
      opened_is = is;
      told_is = leads.0 ∙ ap (λ w. Some (patch_told w patch)) (sym wide);
      leads = ap (λ (page : Page). Some page) (ap (λ (page : Page). laid_over page patch) (sym white) ∙ leads.1);
    }

leads_open : (before : Option Page) (after : Page) (opened told : Option Data) → (from : Page) → StartsFrom before after from opened → Follows from after told → Leads before (Some after) opened told
leads_open before after opened told from h1 follows = grind (arith, follows_on, follows_white)

leads : (before after : Option Page) (opened told : Option Data) → IsPageTold before after opened told → Leads before after opened told
leads None None opened told (none, nothing) = record { step = Stays; opened_is = none; told_is = nothing; leads = refl }
leads (Some before) None opened told (none, closes) = record { step = Closes; opened_is = none; told_is = closes; leads = refl }
leads None (Some after) opened told (from, starts, follows) = leads_open None after opened told from starts follows
leads (Some before) (Some after) opened told (from, starts, follows) = leads_open (Some before) after opened told from starts follows

-- the first lines and the last machine, one more
rebuilt_more : (before : Option Machine) (placed : Placed) (others : List Placed) (step : PageStep) (steps : List PageStep) → page_after (page_if before) step ≡ placed.run.machine.state.page
    → ((count : ℕ) → page_after_all placed.run.machine.state.page (take count steps) ≡ page_if (last_of (Some placed.run.machine) (take count others)))
    → (count : ℕ) → page_after_all (page_if before) (take count (step ∷ steps)) ≡ page_if (last_of before (take count (placed ∷ others)))
rebuilt_more before placed others step steps one more count = grind arith

no_lines : (before : Option Machine) (count : ℕ) → page_after_all (page_if before) (take count []) ≡ page_if (last_of before (take count []))
no_lines before count = grind arith

pub lines_rebuild : LinesRebuildThePages
lines_rebuild before [] text none = record { steps = []; say = none; pages = no_lines before }
lines_rebuild before (placed ∷ others) text (line, rest, is_line, are_lines, joined) =
    let first = leads (page_if before) placed.run.machine.state.page is_line.opened is_line.page is_line.page_is in
    let more = lines_rebuild (Some placed.run.machine) others rest are_lines in
    record {
      steps = first.step ∷ more.steps;
      say = (line, rest, record { is_line = is_line; opened = first.opened_is; page = first.told_is }, more.say, joined);
      pages = rebuilt_more before placed others first.step more.steps first.leads more.pages;
    }
