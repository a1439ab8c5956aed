-- The commands of a stream, written out and read again.
use Rattle.std.specs.Prelude.{ℕ, List}
use Rattle.press_cmd.specs.Token.{Token}
use Rattle.press_cmd.specs.Split.{Closed}
use Rattle.press_asm.specs.Text.{all_bytes}

-- The bytes of the commands that a stream is closed by, each command by itself, are closed by these commands again.
abbrev pub CommandsReadBack : Type 0
CommandsReadBack = (bytes : List ℕ) (commands : List Token) → Closed bytes commands → Closed (all_bytes commands) commands
