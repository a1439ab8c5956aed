use Rattle.std.proofs.Common.{length}
use Rattle.press_disasm.specs.Disassembly.{Lists}
use Rattle.press_disasm.proofs.disassembler.write_lines.Given as goal

-- the lines so far
abbrev pub invariant-loop : goal.invariant-loop
invariant-loop l = Lists l.fn.scanner l.fn.lines.items l.scanner l.lines.items

-- what the scanner holds shrinks
abbrev pub decreases-loop : goal.decreases-loop
decreases-loop l = length l.scanner.bytes
