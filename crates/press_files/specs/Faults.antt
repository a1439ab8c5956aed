-- What the program tells of an input that is not read, in one line.
use Rattle.std.specs.Prelude.{ℕ, List, Option, Some, None}
use Rattle.press_units.specs.Faults.{fault_text}
use Rattle.press_devices.specs.Faults.{read_fault}
use Rattle.press_files.specs.declared.inputs.InputError.{InputError}
use Rattle.press_files.specs.declared.inputs.InputError.TheVariants as inputs

-- the number of an input that cannot be read; none where memory ran out
abbrev pub input_number : InputError → Option ℕ
input_number inputs.ReadFault = Some read_fault
input_number inputs.NoMemory = None

abbrev pub input_text : InputError → List ℕ
input_text error = fault_text (input_number error)
