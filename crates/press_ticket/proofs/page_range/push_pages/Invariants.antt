use Rattle.std.proofs.Common.{◌≡◌, ◌++◌, take}
use Rattle.press_ticket.specs.Pages.{pages_of}
use Rattle.press_ticket.proofs.page_range.push_pages.Given as goal

abbrev pub invariant-loop-index : goal.invariant-loop-index
invariant-loop-index l = l.pages.items ≡ l.fn.pages.items ++ take l.index (pages_of l.range)
