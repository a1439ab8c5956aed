-- The law of jobs, as a statement.
use Rattle.std.specs.Prelude.{◌≡◌, List, None}
use Rattle.std.specs.List.{All}
use Rattle.press_bits.specs.Page.{Page}
use Rattle.press_ticket.specs.Pages.{page_order}
use Rattle.press_ticket.specs.Ticket.{JobTicket}
use Rattle.press_writer.specs.Fitting.{IsImage, refusal}
use Rattle.press_writer.specs.Job.{job_bytes}
use Rattle.press_writer.specs.Wanted.{image_of}
use Rattle.press_printing.specs.Printing.{PrintsTheTicket}

-- The job of a ticket that is not refused with these images prints it. Each image of its set has a column at least, and no dot
-- outside.
abbrev pub JobsPrintTheirTickets : Type 0
JobsPrintTheirTickets =
    (ticket : JobTicket) (images : List Page) → refusal ticket images ≡ None
    → All (λ page. IsImage (image_of images page)) (page_order ticket.run_list)
    → PrintsTheTicket ticket images (job_bytes ticket images)
