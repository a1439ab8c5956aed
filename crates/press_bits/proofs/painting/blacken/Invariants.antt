use Rattle.std.proofs.Common.{◌≤◌, ◌-◌}
use Rattle.press_bits.specs.Ranges.{IsBlackened}
use Rattle.press_bits.proofs.painting.blacken.Given as goal

-- the dots so far are black
abbrev pub invariant-loop-from : goal.invariant-loop-from
invariant-loop-from l = record {
  begun : l.first ≤ l.from;
  left : l.from ≤ l.end;
  black : IsBlackened l.fn.rows l.rows l.first l.from;
}

abbrev pub decreases-loop-from : goal.decreases-loop-from
decreases-loop-from l = l.end - l.from
