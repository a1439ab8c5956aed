-- Stored commands: records one after another.
use Rattle.std.specs.Prelude.{◌≡◌, ℕ, List, [], ◌∷◌, ◌++◌, length}
use Rattle.std.specs.List.{AllByRecursion}
use Rattle.byteorder.specs.Endian.{big_bytes}
use Rattle.press_cmd.specs.Token.{Token, bytes_of}
use Rattle.press_cmd.specs.Stored.{variant_of, IsSound}

-- What stands in front: the number of the command's variant, and how many bytes the command has, in four bytes, the
-- highest first.
abbrev pub header_of : Token → List ℕ
header_of command = variant_of command ∷ big_bytes 4 (length (bytes_of command))

-- The record of a command.
abbrev pub record_of : Token → List ℕ
record_of command = header_of command ++ bytes_of command

-- The records of commands, one after another.
abbrev pub encoded : List Token → List ℕ
encoded [] = []
encoded (command ∷ commands) = record_of command ++ encoded commands

-- These bytes are the records of these commands.
pub record AreRecords (bytes : List ℕ) : Type 0 where
  pub commands : List Token
  pub spelled : bytes ≡ encoded commands
  pub sound : AllByRecursion IsSound commands
