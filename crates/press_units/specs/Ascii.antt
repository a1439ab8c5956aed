-- Characters of ASCII (RFC 20).
use Rattle.std.specs.Prelude.{ℕ, Bool}
use Rattle.std.specs.Int.{is_in_range}

-- the printable characters, the space among them
abbrev pub is_printable : ℕ → Bool
is_printable byte = is_in_range 32 126 byte
