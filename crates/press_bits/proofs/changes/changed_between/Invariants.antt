use Rattle.press_bits.specs.Changes.{Covers}
use Rattle.press_bits.proofs.changes.changed_between.Given as goal

abbrev pub invariant-loop-y : goal.invariant-loop-y
invariant-loop-y l = Covers l.before.page l.after.page l.region l.y
