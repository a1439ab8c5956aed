use Rattle.std.proofs.Common.{ℕ, ◌*◌, ◌<◌, ◌≤◌, ◌≡◌, false}
use Rattle.press_bits.specs.Mark.{row_dot}
use Rattle.press_bits.proofs.painting.end_of_ink.Given as goal

abbrev pub invariant-loop-last : goal.invariant-loop-last
invariant-loop-last l = record {
  within : l.last ≤ l.end;
  white : (p : ℕ) → 8 * l.last ≤ p → p < 8 * l.end → row_dot l.bits p ≡ false;
}

abbrev pub decreases-loop-last : goal.decreases-loop-last
decreases-loop-last l = l.last
