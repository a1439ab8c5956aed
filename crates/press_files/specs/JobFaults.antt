-- What is told of a ticket and its images, in one line.
use Rattle.std.specs.Prelude.{ℕ, List, Option, Some, None}
use Rattle.press_units.specs.Faults.{fault_text}
use Rattle.press_pbm.specs.Faults as pbm
use Rattle.press_ticket.specs.Faults as ticket
use Rattle.press_writer.specs.Faults as writer
use Rattle.press_files.specs.declared.jobs.JobFileError.{JobFileError}
use Rattle.press_files.specs.declared.jobs.JobFileError.TheVariants as jobs
use Rattle.press_files.specs.Faults.{input_text}

-- of a ticket and its images; of a fault of the ticket's what its library says
abbrev pub told_of_job : JobFileError → Option (List ℕ)
told_of_job (jobs.Input error) = Some (input_text error)
told_of_job (jobs.Ticket error) = ticket.told_text error
told_of_job (jobs.Image error) = Some (fault_text (pbm.fault_number error))
told_of_job (jobs.Writer error) = Some (fault_text (writer.fault_number error))
told_of_job jobs.NoMemory = Some (fault_text None)
