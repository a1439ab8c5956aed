use Rattle.std.proofs.Common.{arith}
use Rattle.press_ticket.proofs.PageLemmas.{length_up, length_down}
use Rattle.press_ticket.proofs.page_range.PageRange.count.Goals as goal

pub returns-then-self-clause-pages : goal.returns-then-self-clause-pages
returns-then-self-clause-pages c = omega (arith, length_up c.args.self c.if-self.true, c.from.ensures)

pub returns-else-self-clause-pages : goal.returns-else-self-clause-pages
returns-else-self-clause-pages c = omega (arith, length_down c.args.self c.if-self.false, c.from-else-self.ensures)
