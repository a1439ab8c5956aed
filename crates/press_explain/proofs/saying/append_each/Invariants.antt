use Rattle.std.proofs.Common.{◌≡◌, ◌++◌, map, take}
use Rattle.press_explain.specs.Remarks.{shown_byte}
use Rattle.press_explain.proofs.saying.append_each.Given as goal

-- the bytes so far
abbrev pub invariant-loop-byte : goal.invariant-loop-byte
invariant-loop-byte l = l.text.items ≡ l.fn.text.items ++ map shown_byte (take l.byte-index l.bytes)
