use Rattle.std.proofs.Common.{◌≡◌, drop}
use Rattle.press_cmd.specs.Grammar.{differs}
use Rattle.press_cmd.proofs.marks.differs.Given as goal

abbrev pub invariant-loop-place : goal.invariant-loop-place
invariant-loop-place l = differs l.text l.bytes ≡ differs (drop l.place l.text) (drop l.place l.bytes)
