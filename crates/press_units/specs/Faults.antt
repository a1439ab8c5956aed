-- What is told of a fault (this profile).
use Rattle.std.specs.Prelude.{ℕ, List, ◌++◌, Option, Some, None, codes}
use Rattle.std.specs.Fmt.{decimal}

-- The line of a fault: its number; or, where it has none, that memory ran out.
abbrev pub fault_text : Option ℕ → List ℕ
fault_text (Some number) = codes "fault " ++ decimal number
fault_text None = codes "fault memory"
