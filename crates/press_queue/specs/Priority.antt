-- Priorities and positions as a command gives them: whole numbers.
use Rattle.std.specs.Prelude.{ℕ, ℤ, pos, negsuc, if◌then◌else◌, nat_le, nat_lt, Option, Some, None}

-- a priority: 0 to 100
abbrev pub priority_of : ℤ → Option ℕ
priority_of (pos n) = if nat_le n 100 then Some n else None
priority_of (negsuc n) = None

-- a position in a queue of this length
abbrev pub position_within : ℕ → ℤ → Option ℕ
position_within len (pos n) = if nat_lt n len then Some n else None
position_within len (negsuc n) = None
