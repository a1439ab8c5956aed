-- Pages whose lines stand in bands, which are there only where there are marks.
use Rattle.std.specs.Prelude.{◌≡◌, ℕ, ◌+◌, ◌*◌, ◌/◌, ◌%◌, ◌<◌, ◌≤◌, ◌⊎◌, max, Bool, true, false, List, [], map, length}
use Rattle.std.specs.Prelude.{replicate, nat_lt, slice_index_or, ℤ, pos, ◌+ℤ◌, int_le, int_lt, Result, OnOk, refl}
use Rattle.std.specs.declared.alloc.AllocError.{AllocError}
use Rattle.std.specs.Coded.{Coded, code_by, coded×, coded_list, coded_bool}
use Rattle.press_bits.specs.Page.{Page, page_code, page_where, longest_side}
use Rattle.press_bits.specs.Mark.{row_dot}
use Rattle.press_bits.specs.declared.comparing.Span.{Span}
use Rattle.press_bits.specs.Lines.{bytes_per_line}

-- how many lines a band has
abbrev pub band_lines : ℕ
band_lines = 64

-- What contracts see of bands: their page, and which of them are ready, from the top.
pub record BandedPage : Type 0 where
  pub page : Page
  pub ready : List Bool

abbrev pub banded_code : Coded BandedPage
banded_code =
    code_by (Page × List Bool) (coded× page_code (coded_list coded_bool))
    (λ b. (b.page, b.ready))
    (λ s. record { page = s.0; ready = s.1 })
    (λ _. refl)

-- The band of this line is there.
abbrev pub is_ready : BandedPage → ℕ → Type 0
is_ready bands line = slice_index_or bands.ready (line / band_lines) false ≡ true

-- Of so many lines from y on, those of the page are ready.
abbrev pub AreReady : BandedPage → (y : ℤ) → (lines : ℕ) → Type 0
AreReady bands y lines = (n : ℕ) → int_le y (pos n) ≡ true → int_lt (pos n) (y +ℤ pos lines) ≡ true → n < bands.page.height
    → is_ready bands n

-- Each line that was ready is.
abbrev pub StaysReady : BandedPage → BandedPage → Type 0
StaysReady old new = (line : ℕ) → is_ready old line → is_ready new line

-- band k, which has no bytes where it is not there
abbrev pub band_at : List (List ℕ) → ℕ → List ℕ
band_at bands k = slice_index_or bands k []

-- the dot of a line that stands in its band
abbrev pub line_dot : ℕ → List (List ℕ) → ℕ → ℕ → Bool
line_dot bytes bands x y = row_dot (band_at bands (y / band_lines)) (8 * (y % band_lines * bytes) + x)

-- The page whose lines stand in bands.
unfoldable pub page_of_bands : ℕ → ℕ → List (List ℕ) → Page
page_of_bands width height bands = page_where width height (line_dot (bytes_per_line width) bands)

abbrev pub is_there : List ℕ → Bool
is_there band = nat_lt 0 (length band)

abbrev pub banded : ℕ → ℕ → List (List ℕ) → BandedPage
banded width height bands = record { page = page_of_bands width height bands; ready = map is_there bands }

-- All black dots of a band stand in these of its bytes.
pub record HasDotsIn (marked : Span) (band : List ℕ) : Type 0 where
  pub within : marked.right ≤ length band
  pub white : (p : ℕ) → (p < 8 * marked.left) ⊎ (8 * marked.right ≤ p) → row_dot band p ≡ false

-- Both sides are within the limits, no band lies below the page, each has bytes for 64 lines or none, and the bits past the
-- last dot of a line are white.
pub record HasBands (width height : ℕ) (bands : List (List ℕ)) : Type 0 where
  pub some_width : 1 ≤ width
  pub most_width : width ≤ longest_side
  pub some_height : 1 ≤ height
  pub most_height : height ≤ longest_side
  pub most_bands : length bands ≤ (height + 63) / band_lines
  pub whole : (k : ℕ)
      → (band_at bands k ≡ []) ⊎ (length (band_at bands k) ≡ band_lines * bytes_per_line width)
  pub padding : (y x : ℕ) → y < height → width ≤ x → x < 8 * bytes_per_line width
      → line_dot (bytes_per_line width) bands x y ≡ false

-- Bands that are not there were put behind the others, until there were so many where memory was there.
pub record Grows (old new : List (List ℕ)) (end : ℕ) (result : Result (Unit {0}) AllocError) : Type 0 where
  pub least : length old ≤ length new
  pub most : length new ≤ max (length old) end
  pub same : (k : ℕ) → band_at new k ≡ band_at old k
  pub enough : OnOk result (end ≤ length new)

-- Of the bands from `first` on and before `end`, those that were not there are white, all of them where memory was there; no
-- other band changed.
pub record MakesBands (old new : List (List ℕ)) (first end count : ℕ) (result : Result (Unit {0}) AllocError) : Type 0 where
  pub least : length old ≤ length new
  pub each : (k : ℕ) → (band_at new k ≡ band_at old k) ⊎ ((band_at old k ≡ []) × (band_at new k ≡ replicate count 0))
  pub made : OnOk result ((k : ℕ) → first ≤ k → k < end → is_there (band_at new k) ≡ true)
