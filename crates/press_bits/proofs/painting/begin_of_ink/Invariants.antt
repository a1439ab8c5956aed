use Rattle.std.proofs.Common.{ℕ, ◌-◌, ◌*◌, ◌<◌, ◌≤◌, ◌≡◌, false}
use Rattle.press_bits.specs.Mark.{row_dot}
use Rattle.press_bits.proofs.painting.begin_of_ink.Given as goal

abbrev pub invariant-loop-begin : goal.invariant-loop-begin
invariant-loop-begin l = record {
  begun : l.first ≤ l.begin;
  white : (p : ℕ) → 8 * l.first ≤ p → p < 8 * l.begin → row_dot l.bits p ≡ false;
}

abbrev pub decreases-loop-begin : goal.decreases-loop-begin
decreases-loop-begin l = l.end - l.begin
