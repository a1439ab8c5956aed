use Rattle.press_printing.proofs.TicketLemmas.{jobs-print}
use Rattle.press_printing.proofs.printing_law.jobs_print_their_tickets.Goals as goal

pub returns : goal.returns
returns c = jobs-print
