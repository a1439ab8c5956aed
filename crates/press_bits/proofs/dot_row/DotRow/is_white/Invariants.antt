use Rattle.std.proofs.Common.{◌≡◌, ℕ, ◌*◌, ◌<◌, false}
use Rattle.press_bits.specs.Mark.{row_dot}
use Rattle.press_bits.proofs.dot_row.DotRow.is_white.Given as goal

abbrev pub invariant-loop-word : goal.invariant-loop-word
invariant-loop-word l = (i : ℕ) → i < 8 * (8 * l.word) → row_dot l.self.bits.now i ≡ false
