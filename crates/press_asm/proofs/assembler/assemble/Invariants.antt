use Rattle.std.proofs.Common.{◌≤◌, ◌+◌, length}
use Rattle.press_asm.proofs.Assembling.{IsSoFar}
use Rattle.press_asm.proofs.assembler.assemble.Given as goal

abbrev pub invariant-loop-rest : goal.invariant-loop-rest
invariant-loop-rest l = record {
  so_far : IsSoFar l.text l.rest l.out.items l.number;
  counted : l.number + length l.rest ≤ length l.text;
}

abbrev pub decreases-loop-rest : goal.decreases-loop-rest
decreases-loop-rest l = length l.rest
