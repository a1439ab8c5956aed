-- A ticket's job, printed.
use Rattle.std.proofs.Common.{◌≡◌, ◌∙◌, ℕ, List, [], map, Option, Some, Result, Ok, MatchResult, IsErrAnd, IfOk, ap, subst, arith}
use Rattle.press_bits.specs.Page.{Page}
use Rattle.press_sink.specs.declared.delivery.Delivery.{Delivery}
use Rattle.press_engine.specs.declared.machine.Machine.{Machine}
use Rattle.press_sink.specs.Sending.{Output, Deliver, Complete, HandsOut, sheets_of, reply_bytes_of, under_tag}
use Rattle.press_sink.specs.SinkLog.{SinkLog, logs, under}
use Rattle.press_sink.proofs.SendingLemmas.{sheets_of-delivered, reply_bytes_of-delivered}
use Rattle.press_stream.specs.Meaning.{meaning_of, with_exit}
use Rattle.press_stream.specs.Printed.{Prints}
use Rattle.press_ticket.specs.Ticket.{JobTicket}
use Rattle.press_cmd.specs.Split.{Closed}
use Rattle.press_cmd.specs.Token.{Token}
use Rattle.press_writer.specs.Left.{JobLeft, bytes_left}
use Rattle.press_writer.specs.Wanted.{wanted}
use Rattle.press_theorem.specs.Tickets.{Delivers, IsPrinterOf}

-- what lists tell
abbrev pub told_by : List Delivery → List ℕ → SinkLog
told_by sheets replies = logs (record { delivered = Some sheets; faults = 0 }) (record { replied = Some replies; faults = 0 })

-- a stream that was printed to lists, which had nothing before
pub delivers-of : (bytes : List ℕ) (tag : ℕ) (machine : Option Machine) (sheets : List Delivery) (replies : List ℕ)
    → HandsOut Complete (Prints bytes Complete machine) (under tag (told_by [] []) (told_by sheets replies)) → Delivers bytes tag sheets replies
delivers-of bytes tag machine sheets replies prints = grind arith

-- the outputs of the job of a ticket
job_outputs : (ticket : JobTicket) (images : List Page) (writer : JobLeft) (tag : ℕ) (sheets : List Delivery) (replies : List ℕ)
    → IsPrinterOf ticket images writer → (printed : Delivers (bytes_left writer images) tag sheets replies)
    → (meaning_of (with_exit printed.commands)).outputs ≡ map Deliver (wanted ticket images)
job_outputs ticket images writer tag sheets replies job printed =
    let P : List ℕ → Type 0 = λ bytes. Closed bytes printed.commands in
    ap (λ (commands : List Token). (meaning_of (with_exit commands)).outputs) (job.prints.only printed.commands (subst P job.is_job printed.closed))
    ∙ job.prints.outputs

-- they are the wanted sheets, and there is no reply
pub wanted-delivered : (ticket : JobTicket) (images : List Page) (writer : JobLeft) (tag : ℕ) (sheets : List Delivery) (replies : List ℕ)
    → IsPrinterOf ticket images writer → Delivers (bytes_left writer images) tag sheets replies
    → sheets ≡ under_tag tag (wanted ticket images)
wanted-delivered ticket images writer tag sheets replies job printed =
    printed.sheets_are
    ∙ ap (λ (outputs : List Output). under_tag tag (sheets_of outputs)) (job_outputs ticket images writer tag sheets replies job printed)
    ∙ ap (under_tag tag) (sheets_of-delivered (wanted ticket images))

pub no_reply-delivered : (ticket : JobTicket) (images : List Page) (writer : JobLeft) (tag : ℕ) (sheets : List Delivery) (replies : List ℕ)
    → IsPrinterOf ticket images writer → Delivers (bytes_left writer images) tag sheets replies → replies ≡ []
no_reply-delivered ticket images writer tag sheets replies job printed =
    printed.replies_are ∙ ap reply_bytes_of (job_outputs ticket images writer tag sheets replies job printed) ∙ reply_bytes_of-delivered (wanted ticket images)

-- what is true of an answer whose error alone was told in another way
pub at_ok : {X E F : Type 0} (P : X → Type 0) (f : E → F) (result : Result X E) (answer : Result X F) (value : X)
    → MatchResult result (λ one. answer ≡ Ok one) (λ error. IsErrAnd answer (λ why. why ≡ f error)) → IfOk result P → answer ≡ Ok value
    → P value
at_ok P f result answer value told holds is = grind arith
