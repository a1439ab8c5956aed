-- Counts that stay.
use Rattle.std.specs.Prelude.{ℕ, ◌+◌, min}
use Rattle.press_units.specs.Limits.{greatest_of_64_bits}

-- a count that stays at the greatest number of 64 bits once it is there
abbrev pub counted : ℕ → ℕ → ℕ
counted count more = min (count + more) greatest_of_64_bits
