-- What a message says of itself, and which messages there are (CIP4 JDF 1.5, queue commands and queries of JMF; this profile).
use Rattle.std.specs.Prelude.{ℕ, List, [], ◌∷◌, Option, None, Result, ok_or, bytes_eq, codes, option_map, option_and_then, unwrap_or}
use Rattle.std.specs.Result.{result_map_both}
use Rattle.std.specs.Map.{lookup}
use Rattle.serde_json.specs.Data.{Data}
use Rattle.serde_json.specs.Find.{get, as_str}
use Rattle.press_ticket.specs.Reading.{json_of}
use Rattle.press_core.specs.declared.fault.ParameterFault.{ParameterFault}
use Rattle.press_core.specs.declared.fault.ParameterFault.TheVariants.{Absent, WrongKind}
use Rattle.press_core.specs.declared.fault.Refused.{Refused}
use Rattle.press_core.specs.declared.message_type.MessageType.{MessageType}
use Rattle.press_core.specs.declared.message_type.MessageType.TheVariants as types
use Rattle.press_core.specs.Parameters.{Found, and_then, if_object, text_parameter}

-- The types of messages, by their names.
abbrev pub message_types : List (List ℕ × MessageType)
message_types =
    (codes "SubmitQueueEntry", types.SubmitQueueEntry) ∷ (codes "HoldQueueEntry", types.HoldQueueEntry)
    ∷ (codes "SuspendQueueEntry", types.SuspendQueueEntry) ∷ (codes "ResumeQueueEntry", types.ResumeQueueEntry)
    ∷ (codes "AbortQueueEntry", types.AbortQueueEntry)
    ∷ (codes "RemoveQueueEntry", types.RemoveQueueEntry) ∷ (codes "SetQueueEntryPriority", types.SetQueueEntryPriority)
    ∷ (codes "SetQueueEntryPosition", types.SetQueueEntryPosition) ∷ (codes "HoldQueue", types.HoldQueue)
    ∷ (codes "ResumeQueue", types.ResumeQueue) ∷ (codes "OpenQueue", types.OpenQueue)
    ∷ (codes "CloseQueue", types.CloseQueue) ∷ (codes "FlushQueue", types.FlushQueue)
    ∷ (codes "QueueStatus", types.QueueStatus) ∷ (codes "Status", types.Status) ∷ []

abbrev pub type_named : List ℕ → Option MessageType
type_named name = lookup (bytes_eq name) message_types

-- What a response repeats of its message: the name of its type, and its ID.
pub record Heading : Type 0 where
  pub type_name : List ℕ
  pub id : List ℕ

abbrev pub headed : (type_name id : List ℕ) → Heading
headed type_name id = record { type_name = type_name; id = id }

-- The return codes of messages that are not carried out. unknown: there is no such type of message. wrong: the message, one of its members,
-- its ticket or its images are none that may be. absent: a member that is required is missing. The queue has return codes of its own.
abbrev pub unknown_code : ℕ
unknown_code = 5

abbrev pub wrong_code : ℕ
wrong_code = 6

abbrev pub absent_code : ℕ
absent_code = 7

-- A return code, and the number of a fault of ticket or images, if there is one.
abbrev pub refused_with : ℕ → Refused
refused_with code = record { code = code; fault = None }

abbrev pub for_fault : Option ℕ → Refused
for_fault number = record { code = wrong_code; fault = number }

-- an absent member, and one of another kind
abbrev pub for_parameter : ParameterFault → Refused
for_parameter Absent = refused_with absent_code
for_parameter WrongKind = refused_with wrong_code

-- no message, and a message of no type that there is
abbrev pub no_message : Refused
no_message = refused_with wrong_code

abbrev pub unknown_type : Refused
unknown_type = refused_with unknown_code

-- The type of a message with its heading, or the refusal of one that has none, with as much of the heading as it has.
abbrev pub Headed : Type 0
Headed = Result (Heading × MessageType) (Heading × Refused)

-- the value of a parameter, or why the message is refused, with as much of the heading as it has
abbrev pub or_refused_under : {A : Type 0} → Heading → Found A → Result A (Heading × Refused)
or_refused_under heading found = result_map_both (λ value. value) (λ fault. (heading, for_parameter fault)) found

-- the type under this heading's name: an unknown one where there is none
abbrev pub of_type : Heading → Headed
of_type heading = ok_or (option_map (λ message_type. (heading, message_type)) (type_named heading.type_name)) (heading, unknown_type)

-- the same, where a name was found
abbrev pub with_type : (id : List ℕ) → Found (List ℕ) → Headed
with_type id found = and_then (λ name. of_type (headed name id)) (or_refused_under (headed [] id) found)

-- the type's name, where it is a text, and none else
abbrev pub given_type : Data → List ℕ
given_type message = unwrap_or (option_and_then as_str (get (codes "Type") message)) []

-- The ID is asked for first, then the type.
abbrev pub heading_of : Data → Headed
heading_of message =
    and_then (λ id. with_type id (text_parameter (codes "Type") message))
    (or_refused_under (headed (given_type message) []) (text_parameter (codes "ID") message))

-- the object of a text, where it is UTF-8 and JSON that nests at most 127 deep
abbrev pub message_in : List ℕ → Option Data
message_in text = option_and_then if_object (json_of text)
