-- Why a job was not written, as far as a device makes it so.
use Rattle.std.specs.Prelude.{◌⊎◌, ℕ, List, [], ◌∷◌, Option, ⊤}
use Rattle.press_ticket.specs.Ticket.{JobTicket}
use Rattle.press_writer.specs.declared.fault.WriterError.TheVariants as writer_fault
use Rattle.press_files.specs.Causes.{Failures}
use Rattle.press_files.specs.NamedInputs.{NamedInput}
use Rattle.press_files.specs.declared.inputs.InputError.TheVariants as input_fault
use Rattle.press_files.specs.Jobs.{TicketRead}
use Rattle.press_files.specs.declared.jobs.JobFileError.{JobFileError}
use Rattle.press_files.specs.declared.jobs.JobFileError.TheVariants as fault

-- One of these inputs may be one that cannot be opened.
abbrev pub SomeMissing : List NamedInput → Type 0
SomeMissing [] = ⊥
SomeMissing (input ∷ inputs) = input.IsMissing ⊎ SomeMissing inputs

-- 304: the ticket is not read on; or it was read, and an image may be one that cannot be opened. 614: the output of the job failed.
abbrev pub JobCause : Failures → (had left : Option (List ℕ)) → (images : List NamedInput) → JobFileError → Type 0
JobCause fails had left images (fault.Input input_fault.ReadFault) =
    fails.input ⊎ (((ticket : JobTicket) × TicketRead had left ticket) × SomeMissing images)
JobCause fails had left images (fault.Writer writer_fault.WriteFault) = fails.outputs
JobCause fails had left images other = ⊤
