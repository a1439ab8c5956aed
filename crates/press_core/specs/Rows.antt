-- What each message does to the world of a press, and what it is answered (CIP4 JDF 1.5, queue commands and queries of JMF;
-- this profile).
use Rattle.std.specs.Prelude.{ℕ, ℤ, pos, List, [], ◌++◌, length, nat_lt, if◌then◌else◌, Option, Some, None, Result, Ok, Err, ok_or, option_map, option_and_then, codes}
use Rattle.std.specs.Result.{result_map_both, result_ok}
use Rattle.serde_json.specs.Data.{Data, string}
use Rattle.press_bits.specs.Page.{Page}
use Rattle.press_queue.specs.declared.command.EntryCommand.{EntryCommand}
use Rattle.press_queue.specs.declared.command.EntryCommand.TheVariants as commands
use Rattle.press_queue.specs.declared.refusal.Refusal.{Refusal}
use Rattle.press_queue.specs.declared.refusal.Refusal.TheVariants.{Unknown}
use Rattle.press_queue.specs.Refusal.{return_code_of}
use Rattle.press_queue.specs.Rows as rows
use Rattle.press_queue.specs.State.{QueueState}
use Rattle.press_ticket.specs.declared.fault.TicketError.{TicketError}
use Rattle.press_ticket.specs.Faults as tickets
use Rattle.press_ticket.specs.Members.{as_whole}
use Rattle.press_ticket.specs.Reading.{ticket_from}
use Rattle.press_ticket.specs.Ticket.{JobTicket}
use Rattle.press_writer.specs.declared.fault.WriterError.{WriterError}
use Rattle.press_writer.specs.Faults as writers
use Rattle.press_writer.specs.Fitting.{refusal}
use Rattle.press_core.specs.declared.fault.Refused.{Refused}
use Rattle.press_core.specs.declared.flag.FlagCommand.{FlagCommand}
use Rattle.press_core.specs.declared.flag.FlagCommand.TheVariants as flags
use Rattle.press_core.specs.declared.message_type.MessageType.{MessageType}
use Rattle.press_core.specs.declared.message_type.MessageType.TheVariants as types
use Rattle.press_core.specs.Listings.{entry_id, number_with_id, listed_queue, listed_device, listed_devices}
use Rattle.press_core.specs.Messages.{Heading, Headed, heading_of, message_in, no_message, refused_with, for_fault, for_parameter}
use Rattle.press_core.specs.Parameters.{Found, and_then, optional_parameter, both_found, text_parameter, whole_parameter, object_parameter}
use Rattle.press_core.specs.Response.{Additions, adding, accepted_text, refused_text, no_heading}
use Rattle.press_core.specs.Work.{new_work}
use Rattle.press_core.specs.World.{World, followed, with_queue, with_new_work, without_gone, device, devices}

-- What a message is answered: what the response adds, and the world after it; or why nothing was done.
abbrev pub MessageAnswer : Type 0
MessageAnswer = Result (Additions × World) Refused

abbrev pub telling : Additions → World → MessageAnswer
telling additions world = Ok (additions, world)

-- the world changes, and the response adds nothing
abbrev pub accepting : World → MessageAnswer
accepting world = telling [] world

-- the value of a parameter, or why the message is refused
abbrev pub or_refused : {A : Type 0} → Found A → Result A Refused
or_refused found = result_map_both (λ value. value) for_parameter found

-- a refusal of the queue
abbrev pub for_queue : Refusal → Refused
for_queue refusal = refused_with (return_code_of refusal)

-- the value of a command that the queue carried out, and the world with that queue; or its refusal
abbrev pub after_queue : {A : Type 0} → World → rows.QueueAnswer A → Result (A × World) Refused
after_queue world answer = result_map_both (λ value. (value, with_queue answer.0 world)) for_queue answer.1

-- the number of the entry that has this ID: 21 where there is none
abbrev pub entry_number_of : List ℕ → QueueState → Result ℕ Refused
entry_number_of id queue = ok_or (number_with_id id queue.entries) (for_queue Unknown)

abbrev pub id_parameter : Data → Found (List ℕ)
id_parameter message = text_parameter (codes "QueueEntryID") message

-- the entry that a message names
abbrev pub named_entry : Data → QueueState → Result ℕ Refused
named_entry message queue = and_then (λ id. entry_number_of id queue) (or_refused (id_parameter message))

-- the entry that a message names, and a number beside it
abbrev pub named_entry_with : List ℕ → Data → QueueState → Result (ℕ × ℤ) Refused
named_entry_with key message queue =
    and_then (λ both. and_then (λ number. Ok (number, both.1)) (entry_number_of both.0 queue))
    (or_refused (both_found (id_parameter message) (whole_parameter key message)))

-- what the response to a command to one entry adds
abbrev pub added_by : EntryCommand → Additions
added_by commands.Remove = adding (codes "Status") (string (codes "Removed"))
added_by other = []

-- A command to one entry: the queue's row, and what follows of it.
abbrev pub entry_row : EntryCommand → (number : ℕ) → World → MessageAnswer
entry_row command number world =
    and_then (λ done. telling (added_by command) (followed command number done.1))
    (after_queue world (rows.commanded command number world.queue))

-- the entry is named by the message; so it is, and a number beside it
abbrev pub named_row : EntryCommand → Data → World → MessageAnswer
named_row command message world = and_then (λ number. entry_row command number world) (named_entry message world.queue)

abbrev pub numbered_row : List ℕ → (ℤ → EntryCommand) → Data → World → MessageAnswer
numbered_row key command message world =
    and_then (λ both. entry_row (command both.1) both.0 world) (named_entry_with key message world.queue)

-- A ticket that can be printed with these images.
abbrev pub fitting : JobTicket → Option WriterError → Result JobTicket Refused
fitting ticket None = Ok ticket
fitting ticket (Some error) = Err (for_fault (writers.fault_number error))

abbrev pub fitting_ticket : List Page → Result JobTicket TicketError → Result JobTicket Refused
fitting_ticket images read =
    and_then (λ ticket. fitting ticket (refusal ticket images))
    (result_map_both (λ ticket. ticket) (λ error. for_fault (tickets.fault_number error)) read)

-- the priority of an entry where none is given
abbrev pub default_priority : ℤ
default_priority = pos 50

abbrev pub priority_parameter : Data → Found ℤ
priority_parameter message = optional_parameter (codes "Priority") as_whole default_priority message

abbrev pub submitted_parameters : Data → Found (Data × ℤ)
submitted_parameters message = both_found (object_parameter (codes "Ticket") message) (priority_parameter message)

-- The ticket and the priority of a new entry: the parameters, then the ticket, then its images.
abbrev pub submission : Data → List Page → Result (JobTicket × ℤ) Refused
submission message images =
    and_then (λ both. and_then (λ ticket. Ok (ticket, both.1)) (fitting_ticket images (ticket_from both.0)))
    (or_refused (submitted_parameters message))

-- an entry that the queue took: its ID is told, and its work is in the world
abbrev pub taken_in : (number : ℕ) → JobTicket → List Page → World → MessageAnswer
taken_in number ticket images world =
    telling (adding (codes "QueueEntryID") (string (entry_id number))) (with_new_work number (new_work ticket images) world)

abbrev pub submit_row : Data → List Page → World → MessageAnswer
submit_row message images world =
    and_then (λ both. and_then (λ done. taken_in done.0 both.0 images done.1) (after_queue world (rows.submit both.1 world.queue)))
    (submission message images)

-- a command that sets a flag of the queue
abbrev pub flagged : FlagCommand → QueueState → QueueState
flagged flags.Hold queue = rows.hold_queue queue
flagged flags.Resume queue = rows.resume_queue queue
flagged flags.Open queue = rows.open_queue queue
flagged flags.Close queue = rows.close_queue queue

-- What is told of the engines: what engine 0 does; and where there are others, of each what it does.
abbrev pub devices_added : World → Additions
devices_added world =
    adding (codes "Device") (listed_device (device 0 world))
    ++ (if nat_lt 1 (length world.engines) then adding (codes "Engines") (listed_devices (devices world)) else [])

-- The row of each type of message.
abbrev pub response_row : MessageType → Data → List Page → World → MessageAnswer
response_row types.SubmitQueueEntry message images world = submit_row message images world
response_row types.HoldQueueEntry message images world = named_row commands.Hold message world
response_row types.SuspendQueueEntry message images world = named_row commands.Suspend message world
response_row types.ResumeQueueEntry message images world = named_row commands.Resume message world
response_row types.AbortQueueEntry message images world = named_row commands.Abort message world
response_row types.RemoveQueueEntry message images world = named_row commands.Remove message world
response_row types.SetQueueEntryPriority message images world =
    numbered_row (codes "Priority") (λ priority. commands.SetPriority priority) message world
response_row types.SetQueueEntryPosition message images world =
    numbered_row (codes "Position") (λ position. commands.SetPosition position) message world
response_row types.HoldQueue message images world = accepting (with_queue (flagged flags.Hold world.queue) world)
response_row types.ResumeQueue message images world = accepting (with_queue (flagged flags.Resume world.queue) world)
response_row types.OpenQueue message images world = accepting (with_queue (flagged flags.Open world.queue) world)
response_row types.CloseQueue message images world = accepting (with_queue (flagged flags.Close world.queue) world)
response_row types.FlushQueue message images world = accepting (without_gone (with_queue (rows.flush world.queue) world))
response_row types.QueueStatus message images world = telling (adding (codes "Queue") (listed_queue world.queue)) world
response_row types.Status message images world = telling (devices_added world) world

-- The response to a message of this heading, and the world after it: where it was refused, the one before it.
abbrev pub responding : Heading → World → MessageAnswer → List ℕ × World
responding heading world (Ok (additions, after)) = (accepted_text heading additions, after)
responding heading world (Err refused) = (refused_text heading refused, world)

abbrev pub responding_to : Headed → Data → List Page → World → List ℕ × World
responding_to (Err stopped) message images world = (refused_text stopped.0 stopped.1, world)
responding_to (Ok headed) message images world = responding headed.0 world (response_row headed.1 message images world)

abbrev pub responding_in : Option Data → List Page → World → List ℕ × World
responding_in None images world = (refused_text no_heading no_message, world)
responding_in (Some message) images world = responding_to (heading_of message) message images world

-- The ticket that a message submits with these images, if it does.
abbrev pub ticket_of_type : MessageType → Data → List Page → Option JobTicket
ticket_of_type types.SubmitQueueEntry message images = option_map (λ both. both.0) (result_ok (submission message images))
ticket_of_type other message images = None

abbrev pub ticket_of_headed : Headed → Data → List Page → Option JobTicket
ticket_of_headed found message images = option_and_then (λ headed. ticket_of_type headed.1 message images) (result_ok found)

abbrev pub ticket_in : (text : List ℕ) → List Page → Option JobTicket
ticket_in text images = option_and_then (λ message. ticket_of_headed (heading_of message) message images) (message_in text)

-- The response to a text with images, byte for byte, and the world after it.
abbrev pub responded : (text : List ℕ) → List Page → World → List ℕ × World
responded text images world = responding_in (message_in text) images world
