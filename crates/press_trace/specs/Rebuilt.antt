-- Pages rebuilt of what is told.
use Rattle.std.specs.Prelude.{◌≡◌, ◌-◌, ◌*◌, ◌++◌, ℕ, List, [], ◌∷◌, map, min, take, Option, None, Some, option_map, codes}
use Rattle.std.specs.List.{range_with_len}
use Rattle.hex.specs.Hex.{encode_upper}
use Rattle.serde_json.specs.Data.{Data, null, number, unsigned, string, array, object, item, no_items, no_members, put}
use Rattle.serde_json.specs.View.{items_of}
use Rattle.press_bits.specs.Page.{Page, HasNoDotOutside, blank}
use Rattle.press_bits.specs.Patches.{ChangedIn, Patch, laid_over}
use Rattle.press_bits.specs.declared.region.Region.{Region}
use Rattle.press_pbm.specs.Spelling.{line_bytes}
use Rattle.press_engine.specs.declared.machine.Machine.{Machine}
use Rattle.press_trace.specs.Lines.{IsLine, AreLines, page_if}
use Rattle.press_trace.specs.Pages.{row_in}
use Rattle.press_trace.specs.Places.{Placed}
use Rattle.press_trace.specs.Traced.{last_of}

-- the rows of a region that are told of a page
abbrev pub told_patch : Page → Region → Patch
told_patch page region = record {
  region = region;
  rows = map (λ y. row_in region (line_bytes page y)) (range_with_len region.top (region.bottom - region.top));
}

-- Laid over the page before, they are the page.
abbrev pub RowsAreThePage : Type 0
RowsAreThePage =
    (before after : Page) (region : Region) → ChangedIn before after region → HasNoDotOutside after
    → laid_over before (told_patch after region) ≡ after

-- What a line tells of the open page: that it stays, that none is open any more, a patch on it, or a white page of this size, with a
-- patch or none.
pub data PageStep : Type 0 where
  Stays : PageStep
  Closes : PageStep
  Lays : Patch → PageStep
  Opens : (width height : ℕ) → Option Patch → PageStep

-- a page with a patch laid over it, if there is one
abbrev pub laid_if : Page → Option Patch → Page
laid_if page None = page
laid_if page (Some patch) = laid_over page patch

-- the open page behind what one line tells, and behind what lines tell, one after another
abbrev pub page_after : Option Page → PageStep → Option Page
page_after page Stays = page
page_after page Closes = None
page_after page (Lays patch) = option_map (λ shown. laid_over shown patch) page
page_after page (Opens width height patch) = Some (laid_if (blank width height) patch)

abbrev pub page_after_all : Option Page → List PageStep → Option Page
page_after_all page [] = page
page_after_all page (step ∷ steps) = page_after_all (page_after page step) steps

-- How a patch is told of a page of this width, in dots: where it lies and how large it is, and its rows, in hexadecimal.
abbrev pub patch_told : (width : ℕ) → Patch → Data
patch_told width patch = object (
    put (codes "y") (number (unsigned patch.region.top))
    (put (codes "x") (number (unsigned (8 * patch.region.left)))
    (put (codes "width") (number (unsigned (min (8 * patch.region.right) width - 8 * patch.region.left)))
    (put (codes "rows") (array (items_of (map (λ row. string (encode_upper row)) patch.rows)))
    (put (codes "height") (number (unsigned (patch.region.bottom - patch.region.top))) no_members)))))

-- what a line says: its members `opened` and `page`
abbrev pub opened_member : PageStep → Option Data
opened_member (Opens width height patch) = Some (array (item (number (unsigned width)) (item (number (unsigned height)) no_items)))
opened_member step = None

abbrev pub page_member : PageStep → (shown : Option Page) → Option Data
page_member Stays shown = None
page_member Closes shown = Some null
page_member (Lays patch) None = None
page_member (Lays patch) (Some shown) = Some (patch_told shown.width patch)
page_member (Opens width height patch) shown = option_map (patch_told width) patch

-- The line of an item says this of the page that was open before.
pub record Says (before : Option Machine) (placed : Placed) (line : List ℕ) (step : PageStep) : Type 0 where
  pub is_line : IsLine before placed line
  pub opened : is_line.opened ≡ opened_member step
  pub page : is_line.page ≡ page_member step (page_if before)

-- The lines of items say these, one after another.
abbrev pub Say : Option Machine → List Placed → (text : List ℕ) → List PageStep → Type 0
Say before [] text [] = text ≡ []
Say before (placed ∷ others) text (step ∷ steps) =
    (line : List ℕ) × (rest : List ℕ) × Says before placed line step × Say (Some placed.run.machine) others rest steps
    × (text ≡ line ++ rest)
Say before placed text steps = ⊥

-- What the lines of items say rebuilds the page that is open behind each of them.
pub record Rebuild (before : Option Machine) (placed : List Placed) (text : List ℕ) : Type 0 where
  pub steps : List PageStep
  pub say : Say before placed text steps
  pub pages : (count : ℕ) → page_after_all (page_if before) (take count steps) ≡ page_if (last_of before (take count placed))

abbrev pub LinesRebuildThePages : Type 0
LinesRebuildThePages = (before : Option Machine) (placed : List Placed) (text : List ℕ) → AreLines before placed text → Rebuild before placed text
