-- Inputs that are read whole.
use Rattle.std.specs.Prelude.{ℕ, List, Option}
use Rattle.std.specs.Io.KnownBytes.{Consumes, IsAtEnd}

-- A reader was read to its end, and these were its bytes.
pub record ReadWhole (had left : Option (List ℕ)) (bytes : List ℕ) : Type 0 where
  pub lost : Consumes had left bytes
  pub at_end : IsAtEnd left
