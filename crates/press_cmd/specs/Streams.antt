-- Which commands come from streams.
use Rattle.std.specs.Prelude.{ℕ, List, Contains}
use Rattle.press_cmd.specs.Token.{Token}
use Rattle.press_cmd.specs.Split.{Closed}

-- The command is one of some stream: of its split, or of those that its rest stands for where the stream ends.
abbrev pub IsCommand : Token → Type 0
IsCommand command = (bytes : List ℕ) × (all : List Token) × Closed bytes all × Contains all command
