-- Dots that are widened by a table of four of them.
use Rattle.std.proofs.Common.{◌≡◌, ℕ, ◌+◌, ◌-◌, ◌*◌, ◌/◌, ◌%◌, ◌^◌, ◌<◌, ◌≤◌, Bool, true, false, List, get_or, length, ap, ◌∙◌, inl, inr, arith}
use Rattle.std.specs.Prelude.{bit_or}
use Rattle.std.proofs.lemmas.Nat.{div_below}
use Rattle.std.proofs.lemmas.Nat.Bits.{bit_at_cat_low, bit_at_cat_high}
use Rattle.std.proofs.lemmas.Bool.{cases_lt}
use Rattle.std.proofs.Math.Nat.{mul-add-div_right}
use Rattle.press_bits.specs.Mark.{byte_dot}
use Rattle.press_bits.specs.Words.{word_dot}
use Rattle.press_bits.proofs.TriedLemmas.{every, every_at, same_of, same_test}
use Rattle.press_bits.proofs.WordLemmas.{word_dot-or, word_dot-shl}
use Rattle.std.proofs.lemmas.Bool.Decides.{nat_tests}
use Rattle.press_raster.specs.Widening.{AreFours, four_dot}

-- ---- a table of four dots, tried dot by dot

abbrev pub tried : (size : ℕ) → List ℕ → ℕ → Bool
tried size fours n = every (λ j. same_test (word_dot (get_or fours n 0) j) (four_dot size (n * 16) j)) 64

pub are_fours : (size : ℕ) (fours : List ℕ) → length fours ≡ 16 → every (tried size fours) 16 ≡ true → AreFours size fours
are_fours size fours long all = record {
  long = long;
  dots = λ n j low within.
      let test : ℕ → Bool = λ j. same_test (word_dot (get_or fours n 0) j) (four_dot size (n * 16) j) in
      same_of _ _ (every_at test 64 j (every_at (tried size fours) 16 n all low) within);
}

-- ---- two times four dots

first_four : (b j : ℕ) → j < 4 → byte_dot (b / 16 * 16) j ≡ byte_dot b j
unfolding byte_dot
first_four b j low =
    grind (
      arith,
      bit_at_cat_high (b / 16) 4 0 (7 - j) (omega arith) (omega (arith, low)),
      bit_at_cat_high (b / 16) 4 (b % 16) (7 - j) (omega arith) (omega (arith, low)),
    )

last_four : (b j : ℕ) → j < 4 → byte_dot (b % 16 * 16) j ≡ byte_dot b (4 + j)
unfolding byte_dot
last_four b j low =
    grind (arith, bit_at_cat_high (b % 16) 4 0 (7 - j) (omega arith) (omega (arith, low)), bit_at_cat_low (b / 16) 4 (b % 16) (7 - (4 + j)) (omega (arith, low)))

-- dots of a word of four, and those before them
a_four : (size byte j k : ℕ) → k + 64 ≡ j + 4 * size → four_dot size byte j ≡ byte_dot byte (k / size)
a_four size byte j k is = grind arith

no_four : (size byte j : ℕ) → j + 4 * size < 64 → four_dot size byte j ≡ false
no_four size byte j before = grind arith

pub widened_dot : (fours : List ℕ) (size byte j : ℕ) → 1 ≤ size → size ≤ 8 → AreFours size fours → byte < 256 → j < 8 * size →
    word_dot (bit_or (get_or fours (byte / 16) 0 * 2 ^ (64 - 4 * size) % 2 ^ 64) (get_or fours (byte % 16) 0 * 2 ^ (64 - 8 * size) % 2 ^ 64)) j ≡ byte_dot byte (j / size)
widened_dot fours size byte j some most are small within =
    let high : ℕ = get_or fours (byte / 16) 0 in
    let low : ℕ = get_or fours (byte % 16) 0 in
    let in_low : 64 - 8 * size + j < 64 = omega (arith, most, within) in
    word_dot-or (high * 2 ^ (64 - 4 * size) % 2 ^ 64) (low * 2 ^ (64 - 8 * size) % 2 ^ 64) j
    ∙ elim (cases_lt j (4 * size)) [
      | inl prefix ↦
          grind (
            arith,
            nat_tests,
            word_dot-shl high (64 - 4 * size) j (omega arith),
            word_dot-shl low (64 - 8 * size) j (omega arith),
            are.dots (byte % 16) (64 - 8 * size + j) (omega arith) in_low,
            are.dots (byte / 16) (64 - 4 * size + j) (omega (arith, small)) (omega arith),
            a_four size (byte / 16 * 16) (64 - 4 * size + j) j (omega (arith, most)),
            no_four size (byte % 16 * 16) (64 - 8 * size + j) (omega (arith, most, prefix)),
            first_four byte (j / size) (div_below j size 4 some prefix),
          )
      | inr behind ↦
          let k : ℕ = j - 4 * size in
          let place : j / size ≡ 4 + k / size = ap (λ n. n / size) (omega (arith, behind)) ∙ mul-add-div_right some 4 k in
          grind (
            arith,
            nat_tests,
            word_dot-shl high (64 - 4 * size) j (omega arith),
            word_dot-shl low (64 - 8 * size) j (omega arith),
            are.dots (byte % 16) (64 - 8 * size + j) (omega arith) in_low,
            place,
            a_four size (byte % 16 * 16) (64 - 8 * size + j) k (omega (arith, most, behind)),
            last_four byte (k / size) (div_below k size 4 some (omega (arith, within, behind))),
          )
    ]

-- ---- words one behind another

-- one word more
pub words_next : (size n : ℕ) → size * (n + 1) ≡ size * n + size
words_next size n = grind arith
