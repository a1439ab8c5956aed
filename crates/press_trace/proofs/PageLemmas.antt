-- What is told of the open page.
use Rattle.std.proofs.Common.{◌≡◌, ◌∙◌, ◌+◌, ◌-◌, ◌*◌, ◌≤◌, ℕ, Bool, zero, suc, List, [], ◌∷◌, ◌++◌, map, take, drop, Option, None, Some, inr, refl, sym, ap, arith}
use Rattle.std.proofs.lemmas.List.FromFn.{map-range_with_len_more, take-map-range_with_len}
use Rattle.std.specs.List.{range_with_len}
use Rattle.serde_json.specs.Data.{Data}
use Rattle.press_bits.specs.Lines.{bytes_per_line}
use Rattle.press_bits.specs.Page.{Page, black_at, blank}
use Rattle.press_bits.specs.declared.region.Region.{Region}
use Rattle.press_pbm.specs.Spelling.{byte_of_dots, line_bytes}
use Rattle.press_pbm.proofs.LineLemmas.{bit}
use Rattle.press_trace.specs.Pages.{row_in, size_data, StartsFrom, Follows, IsPageTold}

-- a list of numbers without its first ones
drop_range : {X : Type 0} (f : ℕ → X) (a n l : ℕ) → drop l (map f (range_with_len a n)) ≡ map f (range_with_len (a + l) (n - l))
drop_range f a n zero = λ i. map f (range_with_len (start i) (count i)) where
  start : a ≡ a + 0
  start = omega arith

  count : n ≡ n - 0
  count = omega arith
drop_range f a zero (suc l) = λ i. map f (range_with_len (a + suc l) (none i)) where
  none : 0 ≡ 0 - suc l
  none = omega arith
drop_range f a (suc n) (suc l) = drop_range f (a + 1) n l ∙ (λ i. map f (range_with_len (start i) (count i))) where
  start : a + 1 + l ≡ a + suc l
  start = omega arith

  count : n - l ≡ suc n - suc l
  count = omega arith

-- the bytes of a line from one on, as many as there are before another
pub row_of_dots : (page : Page) (region : Region) (y : ℕ) → region.left ≤ region.right → region.right ≤ bytes_per_line page.width
    → map (λ i. byte_of_dots (λ j. black_at page (8 * i + j) y)) (range_with_len region.left (region.right - region.left)) ≡ row_in region (line_bytes page y)
unfolding line_bytes
row_of_dots page region y order within =
    let byte : ℕ → ℕ = λ i. byte_of_dots (λ j. black_at page (8 * i + j) y) in
    let all : ℕ = bytes_per_line page.width in
    let count : ℕ = region.right - region.left in
    sym (take-map-range_with_len byte region.left (all - region.left) count (omega (arith, within)))
    ∙ ap (λ first. take count (map byte (range_with_len first (all - region.left)))) start
    ∙ ap (take count) (sym (drop_range byte 0 all region.left))
  where
    start : region.left ≡ 0 + region.left
    start = omega arith

-- one byte more
pub row_more : (page : Page) (left index y : ℕ) (row all : List ℕ) (byte : ℕ) → left ≤ index
    → row ≡ map (λ i. byte_of_dots (λ j. black_at page (8 * i + j) y)) (range_with_len left (index - left))
    → byte ≡ byte_of_dots (λ j. black_at page (8 * index + j) y) → all ≡ row ++ byte ∷ []
    → all ≡ map (λ i. byte_of_dots (λ j. black_at page (8 * i + j) y)) (range_with_len left (index + 1 - left))
row_more page left index y row all byte behind so_far is more =
    let each : ℕ → ℕ = λ i. byte_of_dots (λ j. black_at page (8 * i + j) y) in
    let here : left + (index - left) ≡ index = omega (arith, behind) in
    let count : index - left + 1 ≡ index + 1 - left = omega (arith, behind) in
    more
    ∙ (λ i. so_far i ++ is i ∷ [])
    ∙ sym (map-range_with_len_more each left (index - left) index here)
    ∙ ap (λ n. map each (range_with_len left n)) count

eight : (a b c d e f g h : ℕ) → 128 * a + 64 * b + 32 * c + 16 * d + 8 * e + 4 * f + 2 * g + h
    ≡ 2 * (2 * (2 * (2 * (2 * (2 * (2 * (2 * 0 + a) + b) + c) + d) + e) + f) + g) + h
eight a b c d e f g h = omega arith

-- a byte of eight bits
pub byte_is : (dots : ℕ → Bool) (a b c d e f g h : ℕ) → a ≡ bit (dots 0) → b ≡ bit (dots 1) → c ≡ bit (dots 2) → d ≡ bit (dots 3)
    → e ≡ bit (dots 4) → f ≡ bit (dots 5) → g ≡ bit (dots 6) → h ≡ bit (dots 7)
    → 128 * a + 64 * b + 32 * c + 16 * d + 8 * e + 4 * f + 2 * g + h ≡ byte_of_dots dots
unfolding byte_of_dots
byte_is dots a b c d e f g h p q r s t u v w =
    (λ i. 128 * p i + 64 * q i + 32 * r i + 16 * s i + 8 * t i + 4 * u i + 2 * v i + w i)
    ∙ eight (bit (dots 0)) (bit (dots 1)) (bit (dots 2)) (bit (dots 3)) (bit (dots 4)) (bit (dots 5)) (bit (dots 6)) (bit (dots 7))

pub starts_white : (before : Option Page) (after page : Page) → page ≡ blank after.width after.height → StartsFrom before after page (Some (size_data after))
unfolding blank
starts_white before after page white =
    (sym (ap (λ (one : Page). one.width) white), sym (ap (λ (one : Page). one.height) white), inr (white, refl))

pub told_open : (before : Option Page) (after from : Page) (opened told : Option Data) → StartsFrom before after from opened → Follows from after told → IsPageTold before (Some after) opened told
told_open None after from opened told starts follows = (from, starts, follows)
told_open (Some page) after from opened told starts follows = (from, starts, follows)
