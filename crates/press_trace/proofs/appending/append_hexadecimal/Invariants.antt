use Rattle.std.proofs.Common.{◌≡◌, ◌++◌, ◌∷◌, drop}
use Rattle.hex.specs.Hex.{encode_upper}
use Rattle.press_trace.proofs.appending.append_hexadecimal.Given as goal

-- the digits of the bytes behind are missing
abbrev pub invariant-loop-byte : goal.invariant-loop-byte
invariant-loop-byte l = l.text.items ++ encode_upper (drop l.byte-index l.bytes) ≡ l.fn.text.items ++ 34 ∷ encode_upper l.bytes
