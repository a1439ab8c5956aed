-- The defaults of a printer's control panel (PJL Technical Reference Manual, DEFAULT and RESET): lines of the job language in front of a
-- stream.
use Rattle.std.specs.Prelude.{ℕ, List, [], ◌∷◌, ◌++◌, Option, Some, codes}
use Rattle.std.specs.List.{flat_map}
use Rattle.std.specs.Fmt.{option_append}

-- the line that sets a default
abbrev pub default_line : List ℕ → List ℕ
default_line text = codes "@PJL DEFAULT " ++ (text ++ 10 ∷ [])

-- What stands in front of a stream that is printed with these defaults: a line for each of them, and a reset; nothing where there are
-- none. A stream begins in the mode that such a line leaves, so what follows is read as at the beginning.
abbrev pub prefix_of : List (List ℕ) → List ℕ
prefix_of [] = []
prefix_of (text ∷ texts) = flat_map default_line (text ∷ texts) ++ (codes "@PJL RESET" ++ 10 ∷ [])

-- the bytes in front, and behind them what a reader had
abbrev pub with_prefix : (prefix : List ℕ) → (had : Option (List ℕ)) → Option (List ℕ)
with_prefix [] had = had
with_prefix (byte ∷ bytes) had = option_append (Some (byte ∷ bytes)) had

-- It holds of these bytes and what a reader had behind them. What the reader has left is known where no bytes stand in front.
abbrev pub HoldsBehind : (prefix : List ℕ) → (had left : Option (List ℕ)) → (Option (List ℕ) → Option (List ℕ) → Type 0) → Type 0
HoldsBehind [] had left Holds = Holds had left
HoldsBehind (byte ∷ bytes) had left Holds = (rest : Option (List ℕ)) × Holds (with_prefix (byte ∷ bytes) had) rest
