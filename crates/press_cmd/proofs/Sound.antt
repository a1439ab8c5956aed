-- The parts of each command of the code have their ranges.
use Rattle.std.proofs.Common.{ℕ, List, Option, Some, None, arith}
use Rattle.press_cmd.specs.Grammar.{IsBroken}
use Rattle.press_cmd.specs.Token.{bytes_of, broken_of}
use Rattle.press_cmd.specs.Stored.{IsSound}
use Rattle.press_cmd.specs.View.{token}
use Rattle.press_cmd.specs.declared.command.Command.{Command}

sound-broken : (sequence : Option (ℕ × ℕ)) (bytes : List ℕ) → ∥ IsBroken (bytes_of (broken_of sequence bytes)) ∥₁ → IsSound (broken_of sequence bytes)
sound-broken None bytes is = is
sound-broken (Some sequence) bytes is = is

pub sound : (command : Command) → IsSound (token command)
sound command = grind (arith, sound-broken)
