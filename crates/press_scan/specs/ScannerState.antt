-- The state of a scanner: what it holds.
use Rattle.std.specs.Prelude.{ℕ, ◌-◌, List, Bool, length, min, if◌then◌else◌}
use Rattle.press_cmd.specs.ParserState.{ParserState}

-- The mode, the bytes fed that stand in no command given, whether the end of input was given, and how many bytes may be held in
-- memory that is reserved: 0 where none is.
pub record ScannerState : Type 0 where
  pub mode : ParserState
  pub bytes : List ℕ
  pub ended : Bool
  pub room : ℕ

-- the bytes of a reserved buffer: as many as a controller of this profile has
abbrev pub buffer_size : ℕ
buffer_size = 131072

-- so many of them are free, at the least, where no command is left to give
abbrev pub least_free : ℕ
least_free = 65502

-- How many bytes of a piece are taken into reserved memory: as many as it has or as there is room for, and none after the end of
-- input.
abbrev pub taken : ScannerState → List ℕ → ℕ
taken held piece = if held.ended then 0 else min (length piece) (held.room - length held.bytes)
