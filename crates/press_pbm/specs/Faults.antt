-- The numbers of the faults of P4 files (this profile).
use Rattle.std.specs.Prelude.{ℕ, Option, Some, None}
use Rattle.press_pbm.specs.declared.fault.ReadPbmError.{ReadPbmError}
use Rattle.press_pbm.specs.declared.fault.ReadPbmError.TheVariants as errors

-- why no page was read; none where memory ran out
abbrev pub fault_number : ReadPbmError → Option ℕ
fault_number errors.NotPbm = Some 111
fault_number errors.BadSize = Some 112
fault_number errors.Truncated = Some 113
fault_number errors.ReadFault = Some 114
fault_number errors.NoMemory = None

-- a write of a page failed
abbrev pub write_fault : ℕ
write_fault = 115
