use Rattle.std.proofs.Common.{◌≡◌, ℕ, ◌+◌, ◌-◌, ◌*◌, ◌/◌, ◌<◌, false, List, length, inl, inr, arith, rules}
use Rattle.std.proofs.lemmas.Bool.{cases_lt}
use Rattle.press_bits.specs.Mark.{row_dot}
use Rattle.press_bits.specs.Words.{word_dot}
use Rattle.press_bits.proofs.LineLemmas.{row_dot-past}
use Rattle.press_bits.proofs.WordLemmas.{word_dot-zeros}
use Rattle.press_bits.proofs.dot_row.DotRow.is_white.Goals as goal

-- dots before a white word, and those of it
white_on : (bits : List ℕ) (k word : ℕ) → ((i : ℕ) → i < 8 * k → row_dot bits i ≡ false) → ((j : ℕ) → j < 64 → word_dot word j ≡ row_dot bits (8 * k + j)) → word ≡ 0 →
    (i : ℕ) → i < 8 * (k + 8) → row_dot bits i ≡ false
white_on bits k word white dots none = λ i before. grind (arith, white i, dots (i - 8 * k), word_dot-zeros (i - 8 * k))

pub loop-word-preserved : goal.loop-word-preserved
loop-word-preserved c = λ i before.
    white_on c.args.self.bits.now (8 * c.loop-word.word) c.whole_word_at.result c.loop-word.invariant c.whole_word_at.ensures.dots c.if-whole_word_at-ne0.false i (omega arith)

pub returns : goal.returns
returns c = λ white i.
    elim (cases_lt i (8 * (8 * (length c.args.self.bits.now / 8) + 8))) [
      | inl below ↦
          white_on c.args.self.bits.now (8 * (length c.args.self.bits.now / 8)) c.word_at.result (λ n before. c.loop-word.invariant n (omega arith)) c.word_at.ensures.dots (search (rules, white)) i below
      | inr past ↦ row_dot-past c.args.self.bits.now i (omega arith)
    ]
