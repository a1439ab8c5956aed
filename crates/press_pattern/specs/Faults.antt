-- The numbers of the faults of definitions (this profile).
use Rattle.std.specs.Prelude.{ℕ, Option, Some, None}
use Rattle.press_pattern.specs.declared.fault.DefineError.{DefineError}
use Rattle.press_pattern.specs.declared.fault.DefineError.TheVariants as errors

-- why no pattern was defined; none where memory ran out
abbrev pub define_number : DefineError → Option ℕ
define_number errors.BadHeader = Some 201
define_number errors.ShortData = Some 202
define_number errors.NoMemory = None
