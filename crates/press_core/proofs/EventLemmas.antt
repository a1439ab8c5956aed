-- Messages as events.
use Rattle.std.proofs.Common.{◌≡◌, ℕ, [], List, IfOk, IfSome, OnErr, OnOk, Result, Ok, Some, Vec, Global, arith}
use Rattle.std.specs.declared.alloc.AllocError.{AllocError}
use Rattle.serde_json.specs.Data.{Data}
use Rattle.press_bits.specs.Page.{Page}
use Rattle.press_core.specs.declared.message_type.MessageType.{MessageType}
use Rattle.press_core.specs.Events.{Happens, Message, response_to}
use Rattle.press_core.specs.Messages.{Heading, heading_of, message_in}
use Rattle.press_core.specs.Rows.{response_row, responding, ticket_of_type}
use Rattle.press_core.specs.Work.{IsPrintable}
use Rattle.press_core.specs.World.{World}

-- a message of a type, as it was answered
pub message_happens : (text : List ℕ) (images : List Page) (world next : World) (message : Data) (heading : Heading) (message_type : MessageType) (result : Result (Vec ℕ Global) AllocError)
    → message_in text ≡ Some message → heading_of message ≡ Ok (heading, message_type)
    → IfOk result (λ bytes. (bytes.items, next) ≡ responding heading world (response_row message_type message images world)) → OnErr result (next ≡ world)
    → OnOk result (IfSome (ticket_of_type message_type message images) (λ ticket. IsPrintable ticket images))
    → Happens world (Message text images) (response_to result) [] next
message_happens text images world next message heading message_type result is headed responds same printable = grind arith
