-- The greatest numbers of the code's types.
use Rattle.std.specs.Prelude.{ℕ}

-- the greatest number of 64 bits, 2 ^ 64 - 1
abbrev pub greatest_of_64_bits : ℕ
greatest_of_64_bits = 18446744073709551615
