-- Responses to messages, computed.
use Rattle.std.proofs.Common.{◌≡◌, ℕ, List, [], ◌∷◌, Some, None, true, false, codes, refl}
use Rattle.std.specs.Fmt.{digits}
use Rattle.serde_json.specs.Data.{unsigned, Data, null, number, string, object, Members, no_members, member}
use Rattle.serde_json.proofs.OnLiterals.{serde_json_on_literals}
use Rattle.press_bits.specs.Page.{Page, blank}
use Rattle.press_queue.specs.State.{QueueState}
use Rattle.press_queue.specs.Status.{new_entry}
use Rattle.press_queue.specs.declared.status.Status.TheVariants.{Running}
use Rattle.press_core.specs.Rows.{responding_in}
use Rattle.press_core.specs.World.{World, empty_world}

-- a message of a type, with other members in front, and with none
abbrev message_with : (type_name : List ℕ) → Members → Data
message_with type_name members = object (member (codes "ID") (string (codes "m1")) members)

abbrev message : (type_name : List ℕ) → Data
message type_name = message_with type_name (member (codes "Type") (string type_name) no_members)

-- a message that names an entry
abbrev entry_message : (type_name id : List ℕ) → Data
entry_message type_name id =
    message_with type_name (member (codes "QueueEntryID") (string id) (member (codes "Type") (string type_name) no_members))

abbrev response_to : Data → World → List ℕ
response_to message world = (responding_in (Some message) [] world).0

-- no JSON, or no object
pub no_message : (responding_in None [] empty_world).0 ≡ codes "{\"ReturnCode\":6,\"Type\":\"\",\"refID\":\"\"}"
unfolding digits serde_json_on_literals
no_message = refl

-- no type that there is
pub unknown_type : response_to (message (codes "Foo")) empty_world ≡ codes "{\"ReturnCode\":5,\"Type\":\"Foo\",\"refID\":\"m1\"}"
unfolding digits serde_json_on_literals
unknown_type = refl

pub no_type : response_to (object (member (codes "ID") (string (codes "m1")) no_members)) empty_world
    ≡ codes "{\"ReturnCode\":7,\"Type\":\"\",\"refID\":\"m1\"}"
unfolding digits serde_json_on_literals
no_type = refl

pub type_of_another_kind : response_to (object (member (codes "ID") (string (codes "m1")) (member (codes "Type") null no_members))) empty_world
    ≡ codes "{\"ReturnCode\":6,\"Type\":\"\",\"refID\":\"m1\"}"
unfolding digits serde_json_on_literals
type_of_another_kind = refl

pub no_id : response_to (object (member (codes "Type") (string (codes "Status")) no_members)) empty_world
    ≡ codes "{\"ReturnCode\":7,\"Type\":\"Status\",\"refID\":\"\"}"
unfolding digits serde_json_on_literals
no_id = refl

pub id_of_another_kind : response_to (object (member (codes "ID") (number (unsigned 1)) (member (codes "Type") (string (codes "Foo")) no_members))) empty_world
    ≡ codes "{\"ReturnCode\":6,\"Type\":\"Foo\",\"refID\":\"\"}"
unfolding digits serde_json_on_literals
id_of_another_kind = refl

-- an absent parameter comes before one of another kind
abbrev set_priority : Members → Data
set_priority members = message_with (codes "SetQueueEntryPriority") (member (codes "Priority") (string []) members)

pub absent_first : response_to (set_priority (member (codes "Type") (string (codes "SetQueueEntryPriority")) no_members)) empty_world
    ≡ codes "{\"ReturnCode\":7,\"Type\":\"SetQueueEntryPriority\",\"refID\":\"m1\"}"
unfolding digits serde_json_on_literals
absent_first = refl

pub another_kind : response_to (set_priority (member (codes "QueueEntryID") (string (codes "Q1"))
    (member (codes "Type") (string (codes "SetQueueEntryPriority")) no_members))) empty_world
    ≡ codes "{\"ReturnCode\":6,\"Type\":\"SetQueueEntryPriority\",\"refID\":\"m1\"}"
unfolding digits serde_json_on_literals
another_kind = refl

-- an entry that there is not; an ID is spelled in one way
abbrev two_entries : QueueState
two_entries = record {
  entries = (1, record { priority = 60; status = Running; begun = true }) ∷ (2, new_entry 50) ∷ [];
  held = false;
  closed = false;
  last = 2;
}

abbrev busy_world : World
busy_world = record empty_world { queue = two_entries; engines = Some 1 ∷ [] }

pub unknown_entry : response_to (entry_message (codes "HoldQueueEntry") (codes "Q3")) busy_world
    ≡ codes "{\"ReturnCode\":21,\"Type\":\"HoldQueueEntry\",\"refID\":\"m1\"}"
unfolding digits serde_json_on_literals
unknown_entry = refl

pub another_spelling : response_to (entry_message (codes "HoldQueueEntry") (codes "Q02")) busy_world
    ≡ codes "{\"ReturnCode\":21,\"Type\":\"HoldQueueEntry\",\"refID\":\"m1\"}"
unfolding digits serde_json_on_literals
another_spelling = refl

pub wrong_status : response_to (entry_message (codes "HoldQueueEntry") (codes "Q1")) busy_world
    ≡ codes "{\"ReturnCode\":22,\"Type\":\"HoldQueueEntry\",\"refID\":\"m1\"}"
unfolding digits serde_json_on_literals
wrong_status = refl

pub held : response_to (entry_message (codes "HoldQueueEntry") (codes "Q2")) busy_world
    ≡ codes "{\"ReturnCode\":0,\"Type\":\"HoldQueueEntry\",\"refID\":\"m1\"}"
unfolding digits serde_json_on_literals
held = refl

pub suspended : response_to (entry_message (codes "SuspendQueueEntry") (codes "Q1")) busy_world
    ≡ codes "{\"ReturnCode\":0,\"Type\":\"SuspendQueueEntry\",\"refID\":\"m1\"}"
unfolding digits serde_json_on_literals
suspended = refl

pub not_suspended : response_to (entry_message (codes "SuspendQueueEntry") (codes "Q2")) busy_world
    ≡ codes "{\"ReturnCode\":22,\"Type\":\"SuspendQueueEntry\",\"refID\":\"m1\"}"
unfolding digits serde_json_on_literals
not_suspended = refl

pub removed : response_to (entry_message (codes "RemoveQueueEntry") (codes "Q2")) busy_world
    ≡ codes "{\"ReturnCode\":0,\"Status\":\"Removed\",\"Type\":\"RemoveQueueEntry\",\"refID\":\"m1\"}"
unfolding digits serde_json_on_literals
removed = refl

-- what the queue and the device tell
pub queue_told : response_to (message (codes "QueueStatus")) busy_world
    ≡ codes "{\"Queue\":{\"Entries\":[{\"Priority\":60,\"QueueEntryID\":\"Q1\",\"Status\":\"Running\"},{\"Priority\":50,\"QueueEntryID\":\"Q2\",\"Status\":\"Waiting\"}],\"Status\":\"Running\"},\"ReturnCode\":0,\"Type\":\"QueueStatus\",\"refID\":\"m1\"}"
unfolding digits serde_json_on_literals
queue_told = refl

pub idle_device : response_to (message (codes "Status")) empty_world
    ≡ codes "{\"Device\":{\"QueueEntryID\":\"\",\"Sheets\":0,\"Status\":\"Idle\"},\"ReturnCode\":0,\"Type\":\"Status\",\"refID\":\"m1\"}"
unfolding digits serde_json_on_literals
idle_device = refl

-- Of a press of two engines both are told, and the first once more.
abbrev second_busy : World
second_busy = record empty_world { queue = two_entries; engines = None ∷ Some 1 ∷ [] }

pub two_engines : response_to (message (codes "Status")) second_busy
    ≡ codes "{\"Device\":{\"QueueEntryID\":\"\",\"Sheets\":0,\"Status\":\"Idle\"},\"Engines\":[{\"QueueEntryID\":\"\",\"Sheets\":0,\"Status\":\"Idle\"},{\"QueueEntryID\":\"Q1\",\"Sheets\":0,\"Status\":\"Running\"}],\"ReturnCode\":0,\"Type\":\"Status\",\"refID\":\"m1\"}"
unfolding digits serde_json_on_literals
two_engines = refl

-- an entry that is suspended or aborted leaves its engine
pub suspended_leaves : (responding_in (Some (entry_message (codes "SuspendQueueEntry") (codes "Q1"))) [] second_busy).1.engines ≡ None ∷ None ∷ []
unfolding digits serde_json_on_literals
suspended_leaves = refl

pub aborted_leaves : (responding_in (Some (entry_message (codes "AbortQueueEntry") (codes "Q1"))) [] second_busy).1.engines ≡ None ∷ None ∷ []
unfolding digits serde_json_on_literals
aborted_leaves = refl

-- a new entry: a ticket of one page, and its image
abbrev ticket_with : Data → Data
ticket_with amount =
    object (member (codes "Amount") amount (member (codes "JobID") (string (codes "J")) (member (codes "NPage") (number (unsigned 1))
    (member (codes "Type") (string (codes "DigitalPrinting")) (member (codes "Version") (string (codes "1.5")) no_members)))))

abbrev submission_of : ℕ → Data
submission_of amount =
    message_with (codes "SubmitQueueEntry") (member (codes "Ticket") (ticket_with (number (unsigned amount)))
    (member (codes "Type") (string (codes "SubmitQueueEntry")) no_members))

abbrev small_image : Page
small_image = blank 1 1

pub accepted : (responding_in (Some (submission_of 1)) (small_image ∷ []) empty_world).0
    ≡ codes "{\"QueueEntryID\":\"Q1\",\"ReturnCode\":0,\"Type\":\"SubmitQueueEntry\",\"refID\":\"m1\"}"
unfolding digits serde_json_on_literals blank
accepted = refl

pub no_image : (responding_in (Some (submission_of 1)) [] empty_world).0
    ≡ codes "{\"Fault\":611,\"ReturnCode\":6,\"Type\":\"SubmitQueueEntry\",\"refID\":\"m1\"}"
unfolding digits serde_json_on_literals
no_image = refl

pub bad_ticket : (responding_in (Some (submission_of 0)) [] empty_world).0
    ≡ codes "{\"Fault\":605,\"ReturnCode\":6,\"Type\":\"SubmitQueueEntry\",\"refID\":\"m1\"}"
unfolding digits serde_json_on_literals
bad_ticket = refl
