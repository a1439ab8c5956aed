-- The faults that the library answers, as numbers (this profile).
use Rattle.std.specs.Prelude.{◌≡◌, ◌≢◌, ◌⊎◌, ℕ, Option, Some, None}
use Rattle.press_devices.specs.Faults.{read_fault}
use Rattle.press_asm.specs.Faults as asm
use Rattle.press_pbm.specs.Faults as pbm
use Rattle.press_ticket.specs.Faults as ticket
use Rattle.press_writer.specs.Faults as writer
use Rattle.press_files.specs.Faults.{input_number}
use Rattle.press_forms.specs.declared.assembly.TextError.{TextError}
use Rattle.press_forms.specs.declared.assembly.TextError.TheVariants as texts
use Rattle.press_writer.specs.declared.fault.WriterError.{WriterError}
use Rattle.press_writer.specs.declared.fault.WriterError.TheVariants as writers
use Rattle.press_files.specs.declared.jobs.JobFileError.{JobFileError}
use Rattle.press_files.specs.declared.jobs.JobFileError.TheVariants as jobs

-- no fault
abbrev pub no_fault : ℕ
no_fault = 0

-- memory ran out
abbrev pub no_memory : ℕ
no_memory = 1

-- settings are refused: the status of the program then
abbrev pub bad_settings : ℕ
bad_settings = 2

-- a fault by its number; one that has none is that memory ran out
abbrev pub fault_of : Option ℕ → ℕ
fault_of None = no_memory
fault_of (Some number) = number

-- the number of a text's fault; none where memory ran out
abbrev pub text_number : TextError → Option ℕ
text_number (texts.Input error) = input_number error
text_number (texts.Refused error) = asm.fault_number error
text_number texts.WriteFault = Some pbm.write_fault
text_number texts.NoOutput = None
text_number texts.NoMemory = None

-- the number of a job's fault
abbrev pub job_number : JobFileError → Option ℕ
job_number (jobs.Input error) = input_number error
job_number (jobs.Ticket error) = ticket.fault_number error
job_number (jobs.Image error) = pbm.fault_number error
job_number (jobs.Writer writer-fault) = writer.fault_number writer-fault
job_number jobs.NoMemory = None

-- The fault of a job that is not written whole into memory: a write fails where memory ran out.
abbrev pub writer_number : WriterError → Option ℕ
writer_number writers.WriteFault = None
writer_number why = writer.fault_number why

-- The fault of a call over bytes in memory, by the program's status: none with status 0; else that memory ran out, or 304, where the
-- reader of the bytes is not read on.
pub record EndsBy (status : ℕ) (GivenUp : Type 0) (fault : ℕ) : Type 0 where
  pub none : status ≡ 0 → fault ≡ no_fault
  pub some : status ≢ 0 → (fault ≡ no_memory) ⊎ ((fault ≡ read_fault) × GivenUp)

-- The fault of a call that tells it, by the program's status: none with status 0, and with no other.
pub record Tells (status fault : ℕ) : Type 0 where
  pub none : status ≡ 0 → fault ≡ no_fault
  pub some : status ≢ 0 → fault ≢ no_fault
