-- A printed sheet as contracts see it: its pages, and not how their dots are kept.
use Rattle.std.specs.Prelude.{Option, refl}
use Rattle.std.specs.Coded.{Coded, code_by, coded×, coded_option}
use Rattle.press_bits.specs.Page.{Page, page_code}

-- The pages of a sheet: its front, and its back where it has one.
pub record PrintedSheet : Type 0 where
  pub front : Page
  pub back : Option Page

-- sides are stored as the pair of their pages
abbrev pub printed_sheet_code : Coded PrintedSheet
printed_sheet_code =
    code_by (Page × Option Page) (coded× page_code (coded_option page_code))
    (λ sides. (sides.front, sides.back))
    (λ pages. record { front = pages.0; back = pages.1 })
    (λ _. refl)
