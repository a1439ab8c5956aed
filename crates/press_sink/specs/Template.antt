-- Names of files by a template, in which the number of a side has its place.
use Rattle.std.specs.Prelude.{◌≡◌, ◌≤◌, ℕ, ◌+◌, List, ◌++◌, codes, map, min, is_some, if◌then◌else◌}
use Rattle.std.specs.Fmt.{decimal}
use Rattle.std.specs.Int.Digits.{digits_of}
use Rattle.press_units.specs.Limits.{greatest_of_64_bits}
use Rattle.press_bits.specs.PrintedSheet.{PrintedSheet}

-- What stands before the place of the number, and what stands behind it.
pub record NameParts : Type 0 where
  pub front : List ℕ
  pub back : List ℕ

-- a text is these parts round a place of the number
abbrev pub Spells : List ℕ → NameParts → Type 0
Spells text parts = text ≡ parts.front ++ (codes "%d" ++ parts.back)

-- A text is a template with these parts: the number has exactly one place in it.
pub record IsTemplate (text : List ℕ) (parts : NameParts) : Type 0 where
  pub spells : Spells text parts
  pub once : (others : NameParts) → Spells text others → others ≡ parts

-- a text that is no template
abbrev pub IsNoTemplate : List ℕ → Type 0
IsNoTemplate text = (parts : NameParts) → ¬ (IsTemplate text parts)

-- The name of the side with this number.
abbrev pub side_name : NameParts → ℕ → List ℕ
side_name parts number = parts.front ++ (decimal number ++ parts.back)

-- A number from 1 on, as it is written: its decimal digits, the highest first, however many there are, where `decimal` has 64 at most.
abbrev pub IsWritten : List ℕ → Type 0
IsWritten text = (number : ℕ) × (1 ≤ number) × (text ≡ map (λ digit. 48 + digit) (digits_of 10 number))

-- The name is that of a side by a template: with a number from 1 on in the place of the number.
abbrev pub IsSideName : (template name : List ℕ) → Type 0
IsSideName template name =
    (parts : NameParts) × IsTemplate template parts × (number : List ℕ) × IsWritten number × (name ≡ parts.front ++ (number ++ parts.back))

-- The number after so many sides; the greatest number stays.
abbrev pub number_after : ℕ → ℕ → ℕ
number_after sides number = min (number + sides) greatest_of_64_bits

-- how many sides of a sheet are printed
abbrev pub side_count : PrintedSheet → ℕ
side_count sheet = if is_some sheet.back then 2 else 1
