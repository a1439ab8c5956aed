-- How the region in which pages differ is found, line by line.
use Rattle.std.specs.Prelude.{◌≡◌, ◌≢◌, ◌⊎◌, length, Option, None, Some, IfSome, IsSome, ℕ, ◌*◌, ◌<◌, ◌≤◌, Bool, false, ◌&&◌, nat_le, nat_lt, if◌then◌else◌, List}
use Rattle.press_bits.specs.Page.{Page, black_at, page_where}
use Rattle.press_bits.specs.Mark.{row_dot}
use Rattle.press_bits.specs.Patches.{LiesOn, is_in}
use Rattle.press_bits.specs.declared.region.Region.{Region}
use Rattle.press_bits.specs.declared.comparing.Span.{Span}

-- the same of a region that may be none
abbrev pub is_in_any : Option Region → (x y : ℕ) → Bool
is_in_any None x y = false
is_in_any (Some region) x y = is_in region x y

-- Rows of bytes have the same dots outside of a span, and not all the same.
pub record IsSpan (before after : List ℕ) (span : Span) : Type 0 where
  pub some : span.left < span.right
  pub within : span.right ≤ length before
  pub outside : (i : ℕ) → (i < 8 * span.left) ⊎ (8 * span.right ≤ i) → row_dot after i ≡ row_dot before i
  pub real : ((i : ℕ) → row_dot after i ≡ row_dot before i) → ⊥

-- it has a line, and ends above line y
abbrev pub EndsAbove : (y : ℕ) → Region → Type 0
EndsAbove y region = (region.top < region.bottom) × (region.bottom ≤ y)

-- Above line y the pages agree outside of the region, which lies there; they differ if there is one.
pub record Covers (before after : Page) (region : Option Region) (y : ℕ) : Type 0 where
  pub outside : (x n : ℕ) → x < before.width → n < before.height → n < y → is_in_any region x n ≡ false → black_at after x n ≡ black_at before x n
  pub lies : IfSome region (LiesOn before)
  pub above : IfSome region (EndsAbove y)
  pub real : IsSome region → before ≢ after

-- the page with lines of another one, from `first` on and before `end`
unfoldable pub with_lines : (page other : Page) (first end : ℕ) → Page
with_lines page other first end = page_where page.width page.height
    (λ x y. if nat_le first y && nat_lt y end then black_at other x y else black_at page x y)
