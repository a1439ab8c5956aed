-- Where pages differ: rows of bytes, and regions that cover what differs above a line.
use Rattle.std.proofs.Common.{◌≡◌, ◌≢◌, ℕ, ◌+◌, ◌-◌, ◌*◌, ◌/◌, ◌%◌, ◌<◌, ◌≤◌, List, length, get_or}
use Rattle.std.proofs.Common.{Option, MatchOption, ap, arith}
use Rattle.std.specs.Prelude.{nat_eq}
use Rattle.std.specs.Int.{bit_at}
use Rattle.std.proofs.lemmas.Nat.Bits.{bit_at-lt, same_from_bits_below}
use Rattle.press_bits.specs.Page.{Page, HasNoDotOutside, black_at}
use Rattle.press_bits.specs.Mark.{row_dot, byte_dot}
use Rattle.press_bits.specs.Bands.{BandedPage, banded, band_at}
use Rattle.press_bits.specs.Patches.{ChangedIn}
use Rattle.press_bits.specs.Changes.{Covers, IsSpan}
use Rattle.press_bits.specs.declared.region.Region.{Region}
use Rattle.press_bits.proofs.ByteLemmas.{row_dot-of_byte}
use Rattle.press_bits.proofs.CountLemmas.{bit_test}
use Rattle.press_bits.proofs.LineLemmas.{row_dot-past}
use Rattle.press_bits.proofs.PageLemmas.{same_page}
use Rattle.press_bits.proofs.BandLemmas.{width-page_of_bands, height-page_of_bands, black_at-page_of_bands}

-- ---- rows of bytes

bit_of : (a b : ℕ) → a < 2 → b < 2 → nat_eq a 1 ≡ nat_eq b 1 → a ≡ b
bit_of a b one other same = grind (arith, bit_test a one, same, bit_test b other)

-- bytes with the same dots are one
pub same_byte : (a b : ℕ) → a < 256 → b < 256 → ((j : ℕ) → j < 8 → byte_dot a j ≡ byte_dot b j) → a ≡ b
unfolding byte_dot
same_byte a b small_a small_b dots =
    same_from_bits_below 8 a b small_a small_b
    (λ i low. grind (arith, dots (7 - i), bit_of (bit_at a i) (bit_at b i) (bit_at-lt a i) (bit_at-lt b i)))

same_dots : (a b : List ℕ) (i : ℕ) → get_or a (i / 8) 0 ≡ get_or b (i / 8) 0 → row_dot a i ≡ row_dot b i
unfolding row_dot
same_dots a b i same = ap (λ byte. byte_dot byte (i % 8)) same

byte_of_dots : (a b : List ℕ) (k : ℕ) → get_or a k 0 < 256 → get_or b k 0 < 256 → ((i : ℕ) → row_dot a i ≡ row_dot b i) → get_or a k 0 ≡ get_or b k 0
byte_of_dots a b k small_a small_b dots =
    same_byte (get_or a k 0) (get_or b k 0) small_a small_b
    (λ j low. grind (arith, row_dot-of_byte a k (8 * k + j), row_dot-of_byte b k (8 * k + j), dots (8 * k + j)))

pub span_is : (before after : List ℕ) (left right : ℕ) → length after ≡ length before → left < right → right ≤ length before →
    ((k : ℕ) → k < left → get_or after k 0 ≡ get_or before k 0) → ((k : ℕ) → right ≤ k → k < length before → get_or after k 0 ≡ get_or before k 0) →
    get_or after left 0 ≢ get_or before left 0 → get_or after left 0 < 256 → get_or before left 0 < 256 →
    IsSpan before after (record { left = left; right = right })
span_is before after left right long some within first last other small_after small_before = record {
  some = some;
  within = within;
  outside = λ i out. grind (arith, same_dots after before i, first (i / 8), last (i / 8), row_dot-past);
  real = λ all. other (byte_of_dots after before left small_after small_before all);
}

-- ---- bands that are the same

pub same_band : (w h w' h' : ℕ) (old new : List (List ℕ)) (before after : BandedPage) → banded w h old ≡ before → banded w' h' new ≡ after →
    after.page.width ≡ before.page.width → after.page.height ≡ before.page.height → (k x n : ℕ) → band_at old k ≡ band_at new k →
    x < before.page.width → n < before.page.height → n / 64 ≡ k → black_at after.page x n ≡ black_at before.page x n
same_band w h w' h' old new before after is h2 wide high k x n same right below here =
    grind (arith, width-page_of_bands, height-page_of_bands, black_at-page_of_bands)

-- ---- regions

-- ---- what is covered

-- where all lines are covered
pub covers_all : (before after : Page) (region : Option Region) (y : ℕ) → Covers before after region y → before.height ≤ y → after.width ≡ before.width → after.height ≡ before.height →
    HasNoDotOutside before → HasNoDotOutside after → MatchOption region (before ≡ after) (λ region. ChangedIn before after region)
covers_all before after region y covers all wide high none_before none_after = grind (arith, same_page)

-- where the lines that are not covered agree
pub covers_rest : (before after : Page) (region : Option Region) (y : ℕ) → Covers before after region y →
    ((x n : ℕ) → x < before.width → n < before.height → y ≤ n → black_at after x n ≡ black_at before x n) → Covers before after region (y + before.height)
covers_rest before after region y covers agree = grind arith
