use Rattle.std.proofs.Common.{◌≡◌, ◌++◌, drop, string_bytes}
use Rattle.press_trace.specs.Texts.{text_of}
use Rattle.press_trace.proofs.appending.append_escaped.Given as goal

abbrev pub invariant-loop-byte : goal.invariant-loop-byte
invariant-loop-byte l = string_bytes l.characters ++ text_of (drop l.byte-index l.bytes) ≡ text_of l.bytes
