-- The numbers of the faults of a job (this profile).
use Rattle.std.specs.Prelude.{ℕ, Option, Some, None}
use Rattle.press_devices.specs.Faults.{read_fault}
use Rattle.press_stream.specs.declared.fault.JobError.{JobError}
use Rattle.press_stream.specs.declared.fault.JobError.TheVariants as errors

-- why a job did not do what was asked of it; none where memory ran out
abbrev pub fault_number : JobError → Option ℕ
fault_number errors.SinkFault = Some 301
fault_number errors.ReplyFault = Some 302
fault_number errors.Failed = Some 303
fault_number errors.ReadFault = Some read_fault
fault_number errors.AfterEnd = Some 305
fault_number errors.NoMemory = None
