-- The numbers of the faults of a text, and what is told of them (this profile).
use Rattle.std.specs.Prelude.{ℕ, List, ◌++◌, Option, Some, None, codes}
use Rattle.std.specs.Fmt.{decimal}
use Rattle.press_units.specs.Faults.{fault_text}
use Rattle.press_asm.specs.declared.fault.AssembleError.{AssembleError}
use Rattle.press_asm.specs.declared.fault.AssembleError.TheVariants as errors

-- the number of a bad line, a bad value and bad data; none where memory ran out
abbrev pub fault_number : AssembleError → Option ℕ
fault_number (errors.BadLine line) = Some 401
fault_number (errors.BadValue line) = Some 402
fault_number (errors.BadData line) = Some 403
fault_number errors.NoMemory = None

-- the number of the line, counted from 1, where there is one
abbrev pub line_text : AssembleError → List ℕ
line_text (errors.BadLine line) = codes " line " ++ decimal line
line_text (errors.BadValue line) = codes " line " ++ decimal line
line_text (errors.BadData line) = codes " line " ++ decimal line
line_text errors.NoMemory = codes ""

-- What is told: the fault, and the line.
abbrev pub told_text : AssembleError → List ℕ
told_text error = fault_text (fault_number error) ++ line_text error
