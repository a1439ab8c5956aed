use Rattle.std.proofs.Common.{◌≡◌, Ok}
use Rattle.press_sink.specs.Kept.{deliveries, replied}
use Rattle.press_ticket.specs.Reading.{ticket_in}
use Rattle.press_theorem.specs.Tickets.{IsPrinterOf}
use Rattle.press_theorem.specs.declared.tickets.NotPrinted.TheVariants as whys
use Rattle.press_theorem.proofs.TicketLemmas.{at_ok, wanted-delivered, no_reply-delivered}
use Rattle.press_theorem.proofs.tickets.print_ticket.Goals as goal

pub returns-in-Ok-clause-prints : goal.returns-in-Ok-clause-prints
returns-in-Ok-clause-prints c =
    let ticket = c.in_ok-ticket.ticket in
    let images = c.args.images.now in
    let lists = c.in-Ok.printed in
    let is_ticket = at_ok (λ one. ticket_in c.args.text.now ≡ Ok one) whys.Ticket c.read_ticket.result c.map_err.result ticket c.map_err.ensures.cases c.read_ticket.ensures.ok c.in_ok-ticket.was in
    let is_job = at_ok (λ one. IsPrinterOf ticket images one) whys.Images c.job_of.result c.map_err-2.result c.in_ok-writer.writer c.map_err-2.ensures.cases c.job_of.ensures.ok c.in_ok-writer.was in
    (ticket, is_ticket, wanted-delivered ticket images c.in_ok-writer.writer c.args.tag (deliveries lists.sheets) (replied lists.replies) is_job c.in-Ok.ensures.ok)

pub returns-in-Ok-clause-silent : goal.returns-in-Ok-clause-silent
returns-in-Ok-clause-silent c =
    let ticket = c.in_ok-ticket.ticket in
    let images = c.args.images.now in
    let lists = c.in-Ok.printed in
    let is_job = at_ok (λ one. IsPrinterOf ticket images one) whys.Images c.job_of.result c.map_err-2.result c.in_ok-writer.writer c.map_err-2.ensures.cases c.job_of.ensures.ok c.in_ok-writer.was in
    no_reply-delivered ticket images c.in_ok-writer.writer c.args.tag (deliveries lists.sheets) (replied lists.replies) is_job c.in-Ok.ensures.ok
