-- The part of a stroke that has ink.
use Rattle.std.proofs.Common.{◌≡◌, ℕ, ◌+◌, ◌-◌, ◌*◌, ◌<◌, ◌≤◌, false, List, inl, inr, arith}
use Rattle.std.proofs.lemmas.Bool.{cases_lt}
use Rattle.std.proofs.lemmas.Bool.Decides.{nat_tests}
use Rattle.press_bits.specs.Mark.{row_dot}
use Rattle.press_bits.specs.Ranges.{HasInkOf, IsPaintedAlong, IsPaintedFrom}
use Rattle.press_bits.specs.Words.{word_dot}
use Rattle.press_bits.specs.declared.stroke.Run.{Run}
use Rattle.press_bits.specs.declared.stroke.Stroke.{Stroke}
use Rattle.press_bits.proofs.WordLemmas.{word_dot-zeros}

-- a white word
white_word : (bits : List ℕ) (word first place : ℕ) → ((j : ℕ) → j < 64 → word_dot word j ≡ row_dot bits (first + j)) → word ≡ 0
    → first ≤ place → place < first + 64 → row_dot bits place ≡ false
white_word bits word first place dots none begun within = grind (arith, dots (place - first) (omega (arith, begun, within)), none, word_dot-zeros (place - first))

-- white dots, and those of a white word behind them
pub white_behind : (bits : List ℕ) (first begin word : ℕ) → ((p : ℕ) → 8 * first ≤ p → p < 8 * begin → row_dot bits p ≡ false)
    → ((j : ℕ) → j < 64 → word_dot word j ≡ row_dot bits (8 * begin + j)) → word ≡ 0
    → (p : ℕ) → 8 * first ≤ p → p < 8 * (begin + 8) → row_dot bits p ≡ false
white_behind bits first begin word white dots none p reached before =
    elim (cases_lt p (8 * begin)) [
      | inl early ↦ white p reached early
      | inr here ↦ white_word bits word (8 * begin) p dots none here (omega (arith, before))
    ]

-- white dots, and those of a white word before them
pub white_before : (bits : List ℕ) (last end word : ℕ) → ((p : ℕ) → 8 * last ≤ p → p < 8 * end → row_dot bits p ≡ false) → 8 ≤ last
    → ((j : ℕ) → j < 64 → word_dot word j ≡ row_dot bits (8 * (last - 8) + j)) → word ≡ 0
    → (p : ℕ) → 8 * (last - 8) ≤ p → p < 8 * end → row_dot bits p ≡ false
white_before bits last end word white some dots none p reached before =
    elim (cases_lt p (8 * last)) [
      | inl early ↦ white_word bits word (8 * (last - 8)) p dots none reached (omega (arith, early, some))
      | inr here ↦ white p here before
    ]

-- where its ink is painted, the whole stroke is
pub ink_is_all : (old new : List ℕ) (line : ℕ) (stroke : Stroke) (part : Run) → HasInkOf stroke part
    → IsPaintedFrom old new line stroke (8 * line + part.first) (8 * line + part.first + part.count) → IsPaintedAlong old new line stroke
ink_is_all old new line stroke part ink painted p =
    grind (arith, nat_tests, painted p, ink.begun, ink.within, ink.white (p - 8 * line), inl, inr)
