-- Patterns that are repeated, in words.
use Rattle.std.proofs.Common.{◌≡◌, ℕ, ◌+◌, ◌-◌, ◌*◌, ◌/◌, ◌%◌, ◌^◌, ◌<◌, zero, suc, sym, ap, ◌∙◌, w64, arith}
use Rattle.std.specs.Int.{rotate_left}
use Rattle.std.proofs.Math.Nat.{mod-eq_of_lt, add-mod_left, add-mul-mod_self_left}
use Rattle.std.proofs.lemmas.Bool.Decides.{nat_tests}
use Rattle.press_bits.specs.Mark.{IsBlack, Row, row_dot, repeated}
use Rattle.press_bits.specs.Words.{word_dot}
use Rattle.press_bits.proofs.WordLemmas.{word_dot-or, word_dot-ones, word_dot-shr, word_dot-shl}

pub repeated-first : (pattern : Row) (p : ℕ) → p < pattern.dots → row_dot pattern.bits p ≡ repeated pattern p
unfolding repeated
repeated-first pattern p within = ap (row_dot pattern.bits) (sym (mod-eq_of_lt within))

-- after so many dots a pattern begins anew
abbrev pub IsPeriod : Row → ℕ → Type 0
IsPeriod pattern m = (n : ℕ) → repeated pattern (m + n) ≡ repeated pattern n

pub IsPeriod-dots : (pattern : Row) → IsPeriod pattern pattern.dots
unfolding repeated
IsPeriod-dots pattern n = ap (row_dot pattern.bits) (add-mod_left pattern.dots n)

pub IsPeriod-64 : (pattern : Row) → 64 % pattern.dots ≡ 0 → IsPeriod pattern 64
unfolding repeated
IsPeriod-64 pattern divides n = grind (arith, add-mul-mod_self_left n pattern.dots (64 / pattern.dots))

times_64 : (pattern : Row) (k : ℕ) → IsPeriod pattern 64 → IsPeriod pattern (64 * k)
times_64 pattern zero once n = ap (repeated pattern) (omega arith)
times_64 pattern (suc k) once n = grind (arith, once (64 * k + n), times_64 pattern k once n)

-- the dots from a place on are those from what is left of it behind whole patterns
pub repeated-phase : (pattern : Row) (q j : ℕ) → repeated pattern (q % pattern.dots + j) ≡ repeated pattern (q + j)
unfolding repeated
repeated-phase pattern q j = grind (arith, add-mul-mod_self_left (q % pattern.dots + j) pattern.dots (q / pattern.dots))

-- dots behind a period are those of the front
pub behind : (pattern : Row) (word m j p : ℕ) → IsPeriod pattern m → m + j ≡ p → word_dot word j ≡ repeated pattern j → word_dot word j ≡ repeated pattern p
behind pattern word m j p period place is = is ∙ sym (period j) ∙ ap (repeated pattern) place

-- a word that is turned
turned : (n s j : ℕ) → n < 2 ^ 64 → s < 64 → j < 64 → word_dot (rotate_left w64 n s) j ≡ word_dot n ((s + j) % 64)
turned n s j small low within =
    grind (
      arith,
      nat_tests,
      word_dot-or (n * 2 ^ (s % 64) % 2 ^ 64) (n / 2 ^ ((64 - s % 64) % 64)) j,
      word_dot-shl n (s % 64) j within,
      word_dot-shr n ((64 - s % 64) % 64) j small within,
    )

pub turned_prefix : (pattern : Row) (prefix q j : ℕ) → prefix < 2 ^ 64 → 64 % pattern.dots ≡ 0 → ((i : ℕ) → i < 64 → word_dot prefix i ≡ repeated pattern i) → j < 64 →
    word_dot (rotate_left w64 prefix (q % 64)) j ≡ repeated pattern (q + j)
turned_prefix pattern prefix q j small divides dots within =
    grind (arith, turned prefix (q % 64) j small (omega arith) within, dots ((q + j) % 64) (omega arith), times_64 pattern ((q + j) / 64) (IsPeriod-64 pattern divides) ((q + j) % 64))

-- a pattern whose width divides sixty-four is black where its first sixty-four dots are
pub black_prefix : (pattern : Row) (prefix : ℕ) → prefix ≡ 2 ^ 64 - 1 → 64 % pattern.dots ≡ 0 → ((i : ℕ) → i < 64 → word_dot prefix i ≡ repeated pattern i) → IsBlack pattern
black_prefix pattern prefix full divides dots = λ i.
    grind (arith, times_64 pattern (i / 64) (IsPeriod-64 pattern divides) (i % 64), dots (i % 64) (omega arith), full, word_dot-ones (i % 64))
