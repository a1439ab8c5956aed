-- The numbers of the faults of tickets (this profile).
use Rattle.std.specs.Prelude.{ℕ, List, Option, Some, None}
use Rattle.press_units.specs.Faults.{fault_text}
use Rattle.press_ticket.specs.declared.fault.TicketError.{TicketError}
use Rattle.press_ticket.specs.declared.fault.TicketError.TheVariants as errors

-- its number, where it is a fault of the ticket
abbrev pub fault_number : TicketError → Option ℕ
fault_number errors.NotJson = Some 601
fault_number (errors.NotProfile key) = Some 602
fault_number errors.WrongProcess = Some 603
fault_number errors.BadRange = Some 604
fault_number errors.BadAmount = Some 605
fault_number errors.NoMemory = None

-- What is told: the fault. Of one that has a key nothing is said here: how a key is told, its bytes do not say.
abbrev pub told_text : TicketError → Option (List ℕ)
told_text (errors.NotProfile key) = None
told_text error = Some (fault_text (fault_number error))
