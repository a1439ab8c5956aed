use Rattle.std.proofs.Common.{◌≡◌, ◌++◌, drop}
use Rattle.press_ticket.specs.Pages.{page_order}
use Rattle.press_ticket.proofs.page_range.page_order.Given as goal

abbrev pub invariant-loop-range : goal.invariant-loop-range
invariant-loop-range l = l.pages.items ++ page_order (drop l.range-index l.ranges) ≡ page_order l.ranges
