use Rattle.std.proofs.Common.{◌-◌, ◌≤◌}
use Rattle.press_bits.specs.Ranges.{IsPaintedFrom}
use Rattle.press_bits.proofs.painting.paint_between.Given as goal

abbrev pub invariant-loop-from : goal.invariant-loop-from
invariant-loop-from l = record {
  begun : l.fn.first ≤ l.from;
  left : l.from ≤ l.end;
  painted : IsPaintedFrom l.initial.rows l.rows l.line l.fn.stroke l.fn.first l.from;
}

abbrev pub decreases-loop-from : goal.decreases-loop-from
decreases-loop-from l = l.end - l.from
