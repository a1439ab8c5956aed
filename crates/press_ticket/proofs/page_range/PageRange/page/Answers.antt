use Rattle.std.proofs.Common.{arith}
use Rattle.press_ticket.proofs.PageLemmas.{length_up, length_down, page_up, page_down}
use Rattle.press_ticket.proofs.page_range.PageRange.page.Goals as goal

pub overflow_cast-result : goal.overflow_cast-result
overflow_cast-result c = omega (arith, length_up c.args.self c.if-self.true, c.requires)

pub overflow_add-result : goal.overflow_add-result
overflow_add-result c = omega (arith, length_up c.args.self c.if-self.true, c.requires)

pub overflow_cast-result-else-self : goal.overflow_cast-result-else-self
overflow_cast-result-else-self c = omega (arith, length_down c.args.self c.if-self.false, c.requires)

pub overflow_sub-result : goal.overflow_sub-result
overflow_sub-result c = omega (arith, length_down c.args.self c.if-self.false, c.requires)

pub returns-then-self-clause-value : goal.returns-then-self-clause-value
returns-then-self-clause-value c = page_up c.args.self c.args.index c.if-self.true c.requires

pub returns-else-self-clause-value : goal.returns-else-self-clause-value
returns-else-self-clause-value c = page_down c.args.self c.args.index c.if-self.false c.requires

pub returns-then-self-clause-within : goal.returns-then-self-clause-within
returns-then-self-clause-within c = λ n first last. omega (arith, length_up c.args.self c.if-self.true, c.requires)
