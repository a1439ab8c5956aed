-- What printing a stream hands back.
use Rattle.std.specs.Prelude.{◌≡◌, ℕ, List, Option, Some, None, Result, Ok, Err}
use Rattle.press_units.specs.Faults.{fault_text}
use Rattle.press_engine.specs.declared.machine.Machine.{Machine}
use Rattle.press_stream.specs.declared.fault.JobError.{JobError}
use Rattle.press_stream.specs.Faults.{fault_number}
use Rattle.press_stream.specs.State.{JobState}
use Rattle.press_devices.specs.Telling.{Tells, as_line}

-- the machine of the job that was handed back
abbrev pub machine_of : Result JobState JobError → Option Machine
machine_of (Ok job) = job.machine
machine_of (Err _) = None

-- the status: 1 after a fault, else 0
abbrev pub status_of_fault : Option JobError → ℕ
status_of_fault None = 0
status_of_fault (Some _) = 1

-- The fault was told, if there was one, and nothing else.
abbrev pub TellsFault : Option JobError → (said says : Option (List ℕ)) → Type 0
TellsFault None said says = says ≡ said
TellsFault (Some error) said says = Tells said says (as_line (Some (fault_text (fault_number error))))
