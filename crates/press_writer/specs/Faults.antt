-- The numbers of the faults of images and of writing (this profile).
use Rattle.std.specs.Prelude.{ℕ, Option, Some, None}
use Rattle.press_writer.specs.declared.fault.WriterError.{WriterError}
use Rattle.press_writer.specs.declared.fault.WriterError.TheVariants as errors

-- its number, unless memory ran out
abbrev pub fault_number : WriterError → Option ℕ
fault_number errors.PageMissing = Some 611
fault_number errors.TooWide = Some 612
fault_number errors.TooTall = Some 613
fault_number errors.WriteFault = Some 614
fault_number errors.NoMemory = None
