-- Numbers that commands are told.
use Rattle.std.specs.Prelude.{ℕ, ℤ, pos, negsuc, nat_le, nat_lt, min, if◌then◌else◌, List, [], ◌∷◌, Option, Some, None}
use Rattle.std.specs.List.{find}
use Rattle.std.specs.Ordering.{int_eq}

-- what a table names by a number
abbrev pub named : {Named : Type 0} → List (ℕ × Named) → ℤ → Option Named
named [] n = None
named (row ∷ rows) n = if int_eq n (pos row.0) then Some row.1 else named rows n

-- the first of some things that has a number
abbrev pub numbered : {Numbered : Type 0} → (number : Numbered → ℕ) → List Numbered → ℤ → Option Numbered
numbered number things n = find (λ thing. int_eq (pos (number thing)) n) things

-- a number from 0 to the most
abbrev pub within : (most : ℕ) → ℤ → Option ℕ
within most (pos n) = if nat_le n most then Some n else None
within most (negsuc n) = None

-- a number cut to 0 and the most
abbrev pub cut : (most : ℕ) → ℤ → ℕ
cut most (pos n) = min n most
cut most (negsuc n) = 0

-- a number that is less, or greater, than a limit
abbrev pub below : (limit : ℕ) → ℕ → Option ℕ
below limit n = if nat_lt n limit then Some n else None

abbrev pub above : (limit : ℕ) → ℕ → Option ℕ
above limit n = if nat_lt limit n then Some n else None
