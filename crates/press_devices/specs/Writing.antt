-- What was written of bytes that are to be written whole.
use Rattle.std.specs.Prelude.{◌≡◌, ℕ, List, ◌++◌, Option, Result, MatchResult}
use Rattle.std.specs.Io.KnownBytes.{Appends}

-- A prefix of the bytes was added.
abbrev pub AppendsPrefix : Option (List ℕ) → Option (List ℕ) → List ℕ → Type 0
AppendsPrefix old new bytes = (prefix back : List ℕ) × (bytes ≡ prefix ++ back) × Appends old new prefix

-- The bytes were written: all of them, or a prefix of them where a write failed.
abbrev pub Writes : {X E : Type 0} → Result X E → Option (List ℕ) → Option (List ℕ) → List ℕ → Type 0
Writes result old new bytes = MatchResult result (λ _. Appends old new bytes) (λ _. AppendsPrefix old new bytes)
