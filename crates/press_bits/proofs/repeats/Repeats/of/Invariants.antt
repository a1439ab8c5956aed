use Rattle.std.proofs.Common.{◌≡◌, ℕ, ◌-◌, ◌<◌, ◌≤◌}
use Rattle.press_bits.specs.Mark.{row, repeated}
use Rattle.press_bits.specs.Words.{word_dot}
use Rattle.press_bits.proofs.RepeatLemmas.{IsPeriod}
use Rattle.press_bits.proofs.repeats.Repeats.of.Given as goal

abbrev pub invariant-loop-known : goal.invariant-loop-known
invariant-loop-known l = record {
  some : 1 ≤ l.known;
  period : IsPeriod (row l.fn.pattern) l.known;
  dots : (j : ℕ) → j < 64 → j < l.known → word_dot l.prefix j ≡ repeated (row l.fn.pattern) j;
}

abbrev pub decreases-loop-known : goal.decreases-loop-known
decreases-loop-known l = 64 - l.known
