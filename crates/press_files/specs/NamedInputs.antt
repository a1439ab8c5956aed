-- Inputs that are opened by their names.
use Rattle.std.specs.Prelude.{ℕ, List, Option}
use Rattle.std.specs.Str.{IsUtf8}

-- An input: what it has, where that is known; that it, or some input of its type, is not read on; and that it may be one that cannot be
-- opened.
pub record NamedInput : Type 1 where
  pub bytes : Option (List ℕ)
  pub Failed : Type 0
  pub IsMissing : Type 0

-- The input of a name. A word that is no text is the name of none.
abbrev pub named : (Failed : Type 0) (bytes : List ℕ → Option (List ℕ)) → (missing : List ℕ → Type 0) → (name : List ℕ) → NamedInput
named Failed bytes missing name = record { bytes = bytes name; Failed = Failed; IsMissing = IsUtf8 name → missing name }
