-- Rows of dots that are painted along a line, one word after another.
use Rattle.std.proofs.Common.{◌≡◌, ℕ, ◌+◌, ◌-◌, ◌*◌, ◌/◌, ◌%◌, ◌^◌, ◌<◌, ◌≤◌, ◌⊎◌, Bool, true, ◌&&◌, List, length, replicate, get_or, take, drop, inl, inr, arith}
use Rattle.std.specs.Prelude.{nat_lt, nat_le, bit_or}
use Rattle.std.proofs.lemmas.Bool.{cases_lt}
use Rattle.std.proofs.lemmas.Bool.Decides.{nat_tests}
use Rattle.std.proofs.lemmas.List.{get_or-replicate, length-replicate, length-take, length-drop}
use borrow.Rule.Slice.PartMut.{put_mid}
use Rattle.press_bits.specs.DotRows.{mixed_dot}
use Rattle.press_bits.specs.Mark.{row_dot}
use Rattle.press_bits.specs.Ranges.{IsBlackened}
use Rattle.press_bits.specs.Words.{word_dot}
use Rattle.press_bits.specs.declared.mode.Mode.{Mode}
use Rattle.press_bits.proofs.ByteLemmas.{byte_dot-ones, row_dot-of_byte}
use Rattle.press_bits.proofs.LineLemmas.{row_dot-slice}
use Rattle.press_bits.proofs.WordLemmas.{word_dot-or, shifted_right, put_at, put_elsewhere}

-- The dots from `from` on and before `to` are painted, the others not.
abbrev pub IsPaintedBetween : (old new : List ℕ) → Mode → (source tile : ℕ → Bool) → (from to : ℕ) → Type 0
IsPaintedBetween old new mode source tile from to =
    (p : ℕ) → row_dot new p ≡ mixed_dot (nat_le from p && nat_lt p to) mode (source p) (tile p) (row_dot old p)

-- the dots of a word are painted into eight bytes
pub painted_word : (old new : List ℕ) (mode : Mode) (source tile : ℕ → Bool) (index from to dots through mask before after : ℕ) →
    8 * index ≤ from → to ≤ 8 * index + 64 →
    ((j : ℕ) → j < 64 → from + j < to → word_dot dots j ≡ source (from + j)) →
    ((j : ℕ) → j < 64 → word_dot through j ≡ tile (from + j)) →
    ((j : ℕ) → j < 64 → word_dot mask j ≡ (nat_le from (8 * index + j) && nat_lt (8 * index + j) to)) →
    ((j : ℕ) → j < 64 → word_dot before j ≡ row_dot old (8 * index + j)) →
    ((j : ℕ) → j < 64 → word_dot after j ≡ mixed_dot (word_dot mask j) mode (word_dot (dots / 2 ^ (from - 8 * index)) j) (word_dot (through / 2 ^ (from - 8 * index)) j) (word_dot before j)) →
    ((j : ℕ) → j < 64 → row_dot new (8 * index + j) ≡ word_dot after j) →
    ((p : ℕ) → (p < 8 * index) ⊎ (8 * index + 64 ≤ p) → row_dot new p ≡ row_dot old p) →
    IsPaintedBetween old new mode source tile from to
painted_word old new mode source tile index from to dots through mask before after begun within sources tiles masks befores mixed here elsewhere p =
    elim (cases_lt p (8 * index)) [
      | inl early ↦ grind (arith, nat_tests, elsewhere p (inl early))
      | inr reached ↦ elim (cases_lt p (8 * index + 64)) [
        | inl low ↦ inside (p - 8 * index) (omega arith) (omega arith)
        | inr past ↦ grind (arith, nat_tests, elsewhere p (inr past))
      ]
    ]
  where
    inside : (j : ℕ) → p ≡ 8 * index + j → j < 64 → row_dot new p ≡ mixed_dot (nat_le from p && nat_lt p to) mode (source p) (tile p) (row_dot old p)
    inside j place low =
        grind (
          arith,
          nat_tests,
          here j low,
          mixed j low,
          masks j low,
          befores j low,
          shifted_right dots (from - 8 * index) j,
          shifted_right through (from - 8 * index) j,
          sources (p - from),
          tiles (p - from),
        )

-- whole bytes are filled with black dots
pub painted_bytes : (rows bytes : List ℕ) (mode : Mode) (source tile : ℕ → Bool) (from first last : ℕ) → from ≡ 8 * first → first ≤ last → last ≤ length rows →
    bytes ≡ replicate (length (take (last - first) (drop first rows))) 255 →
    ((p : ℕ) → from ≤ p → p < 8 * last → source p ≡ true) → ((p : ℕ) → tile p ≡ true) →
    IsPaintedBetween rows (put_mid first (last - first) rows bytes) mode source tile from (8 * last)
painted_bytes rows bytes mode source tile from first last begin onward room is black through p =
    let place : ℕ = p / 8 - first in
    grind (
      arith,
      nat_tests,
      put_elsewhere rows bytes first (last - first) long (omega arith) p,
      row_dot-of_byte (put_mid first (last - first) rows bytes) (first + place) p,
      put_at rows bytes first (last - first) long (omega arith) place,
      full place,
      byte_dot-ones (p % 8),
      black p,
      through p,
      inl,
      inr,
    )
  where
    count : length (take (last - first) (drop first rows)) ≡ last - first
    count = omega (arith, length-take (last - first) (drop first rows), length-drop first rows)

    long : length bytes ≡ last - first
    long = grind (arith, length-replicate, count)

    full : (i : ℕ) → i < last - first → get_or bytes i 0 ≡ 255
    full i low = grind (arith, is, get_or-replicate {A = ℕ} (length (take (last - first) (drop first rows))) i 255 0 (omega (arith, count)))

-- whole bytes are laid over others
pub laid_bytes : (rows bytes bits : List ℕ) (mode : Mode) (source tile : ℕ → Bool) (from first last at : ℕ) → from ≡ 8 * first → first ≤ last → last ≤ length rows → length bytes ≡ last - first →
    bytes ≡ take (last - first) (drop at bits) →
    ((p : ℕ) → from ≤ p → p < 8 * last → source p ≡ row_dot bits (8 * at + (p - from))) → mode.source_opaque ≡ true → ((p : ℕ) → tile p ≡ true) →
    IsPaintedBetween rows (put_mid first (last - first) rows bytes) mode source tile from (8 * last)
laid_bytes rows bytes bits mode source tile from first last at begin onward room long is right opaque through p =
    let place : ℕ = p / 8 - first in
    grind (
      arith,
      nat_tests,
      put_elsewhere rows bytes first (last - first) long (omega arith) p,
      row_dot-of_byte (put_mid first (last - first) rows bytes) (first + place) p,
      put_at rows bytes first (last - first) long (omega arith) place,
      row_dot-of_byte bytes place (p - from),
      row_dot-slice bits at (last - first) (p - from),
      right p,
      through p,
      inl,
      inr,
    )

-- ---- dots that are blackened

-- the dots of a mask are laid over those of eight bytes
pub blackened_word : (old new : List ℕ) (index from to mask before : ℕ) → 8 * index ≤ from → to ≤ 8 * index + 64 →
    ((j : ℕ) → j < 64 → word_dot mask j ≡ (nat_le from (8 * index + j) && nat_lt (8 * index + j) to)) →
    ((j : ℕ) → j < 64 → word_dot before j ≡ row_dot old (8 * index + j)) →
    ((j : ℕ) → j < 64 → row_dot new (8 * index + j) ≡ word_dot (bit_or before mask) j) →
    ((p : ℕ) → (p < 8 * index) ⊎ (8 * index + 64 ≤ p) → row_dot new p ≡ row_dot old p) → IsBlackened old new from to
blackened_word old new index from to mask before begun within masks befores here elsewhere p =
    let j : ℕ = p - 8 * index in grind (arith, nat_tests, elsewhere p, here j, word_dot-or before mask j, befores j, masks j, inl, inr)
