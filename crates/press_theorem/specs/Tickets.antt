-- What came of a ticket that was printed.
use Rattle.std.specs.Prelude.{◌≡◌, ℕ, List, length, Option, Some, None, Ok, Err, ⊤}
use Rattle.press_bits.specs.Page.{Page}
use Rattle.press_cmd.specs.Split.{Closed}
use Rattle.press_cmd.specs.Token.{Token}
use Rattle.press_sink.specs.Sending.{sheets_of, reply_bytes_of, under_tag}
use Rattle.press_sink.specs.declared.delivery.Delivery.{Delivery}
use Rattle.press_stream.specs.Meaning.{meaning_of, with_exit}
use Rattle.press_ticket.specs.Faults as ticket_faults
use Rattle.press_ticket.specs.Reading.{ticket_in}
use Rattle.press_ticket.specs.Ticket.{JobTicket}
use Rattle.press_ticket.specs.declared.fault.TicketError.TheVariants as ticket_errors
use Rattle.press_units.specs.Faults.{fault_text}
use Rattle.press_writer.specs.Faults as writer_faults
use Rattle.press_writer.specs.Fitting.{refusal}
use Rattle.press_writer.specs.Job.{job_bytes}
use Rattle.press_writer.specs.Left.{HasImages, JobLeft, bytes_left}
use Rattle.press_printing.specs.Printing.{PrintsTheTicket}
use Rattle.press_writer.specs.declared.fault.WriterError.{WriterError}
use Rattle.press_writer.specs.declared.fault.WriterError.TheVariants as writer_errors
use Rattle.press_theorem.specs.declared.tickets.NotPrinted.{NotPrinted}
use Rattle.press_theorem.specs.declared.tickets.NotPrinted.TheVariants as whys

-- A stream was carried out to its end: all its sheets were delivered under the tag, and all its replies written.
pub record Delivers (bytes : List ℕ) (tag : ℕ) (sheets : List Delivery) (replies : List ℕ) : Type 0 where
  pub commands : List Token
  pub closed : Closed bytes commands
  pub sheets_are : sheets ≡ under_tag tag (sheets_of (meaning_of (with_exit commands)).outputs)
  pub replies_are : replies ≡ reply_bytes_of (meaning_of (with_exit commands)).outputs

-- A writer has still to give all of the job of a ticket with these images, which prints the ticket.
pub record IsPrinterOf (ticket : JobTicket) (images : List Page) (writer : JobLeft) : Type 0 where
  pub is_job : bytes_left writer images ≡ job_bytes ticket images
  pub prints : PrintsTheTicket ticket images (job_bytes ticket images)
  pub has_images : HasImages (length images) writer

-- Why a ticket is not printed with images: it does not fit them; or memory ran out.
abbrev pub IsUnfit : JobTicket → List Page → WriterError → Type 0
IsUnfit ticket images writer_errors.NoMemory = ⊤
IsUnfit ticket images why = refusal ticket images ≡ Some why

-- Why a ticket was not printed: the text is none; or it is one, and does not fit the images; or memory ran out.
abbrev pub IsNotPrinted : (text : List ℕ) → List Page → NotPrinted → Type 0
IsNotPrinted text images (whys.Ticket ticket_errors.NoMemory) = ⊤
IsNotPrinted text images (whys.Ticket why) = ticket_in text ≡ Err why
IsNotPrinted text images (whys.Images why) = (ticket : JobTicket) × (ticket_in text ≡ Ok ticket) × IsUnfit ticket images why
IsNotPrinted text images whys.NoMemory = ⊤

-- its number; none where memory ran out
abbrev pub not_printed_number : NotPrinted → Option ℕ
not_printed_number (whys.Ticket why) = ticket_faults.fault_number why
not_printed_number (whys.Images why) = writer_faults.fault_number why
not_printed_number whys.NoMemory = None

-- what is told of it
abbrev pub not_printed_text : NotPrinted → Option (List ℕ)
not_printed_text (whys.Ticket why) = ticket_faults.told_text why
not_printed_text (whys.Images why) = Some (fault_text (writer_faults.fault_number why))
not_printed_text whys.NoMemory = Some (fault_text None)
