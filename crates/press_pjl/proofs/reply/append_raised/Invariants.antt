use Rattle.std.proofs.Common.{◌≡◌, ◌++◌, take}
use Rattle.press_cmd.specs.Language.{raised}
use Rattle.press_pjl.proofs.reply.append_raised.Given as goal

-- the bytes so far stand there in upper case
abbrev pub invariant-loop-byte : goal.invariant-loop-byte
invariant-loop-byte l = l.out.items ≡ l.fn.out.items ++ raised (take l.byte-index l.bytes)
