-- Which bytes stand for themselves in a text of JSON, whatever comes behind them.
use Rattle.std.specs.Prelude.{ℕ, Bool, ◌&&◌, not, ◌==◌, nat_le, nat_lt}

-- those of ASCII but control characters, the quotation mark and the backslash
abbrev pub is_unescaped : ℕ → Bool
is_unescaped byte = nat_le 32 byte && (nat_lt byte 127 && (not (byte == 34) && not (byte == 92)))
