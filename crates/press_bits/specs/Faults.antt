-- The number of the fault of a blank bitmap (this profile).
use Rattle.std.specs.Prelude.{ℕ, Option, Some, None}
use Rattle.press_bits.specs.declared.fault.BlankError.{BlankError}
use Rattle.press_bits.specs.declared.fault.BlankError.TheVariants as errors

-- why no blank bitmap was made; none where memory ran out
abbrev pub blank_number : BlankError → Option ℕ
blank_number errors.BadSize = Some 101
blank_number errors.NoMemory = None
