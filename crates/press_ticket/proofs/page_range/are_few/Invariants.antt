use Rattle.std.proofs.Common.{◌≡◌, ◌+◌, ◌≤◌, length, drop}
use Rattle.press_ticket.specs.Pages.{page_order}
use Rattle.press_ticket.proofs.page_range.are_few.Given as goal

abbrev pub invariant-loop-range : goal.invariant-loop-range
invariant-loop-range l = record {
  counted : l.total + length (page_order (drop l.range-index l.ranges)) ≡ length (page_order l.ranges);
  few : l.total ≤ 999;
}
