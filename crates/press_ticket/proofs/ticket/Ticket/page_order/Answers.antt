use Rattle.press_ticket.proofs.RangeLemmas.{pages_in_range}
use Rattle.press_ticket.proofs.ticket.Ticket.page_order.Goals as goal

pub returns-clause-within : goal.returns-clause-within
returns-clause-within c =
    rw (← c.self.view_is) (pages_in_range c.self.inside.page_count c.self.inside.amount c.self.inside.run_list.items _ c.self.invariant)
