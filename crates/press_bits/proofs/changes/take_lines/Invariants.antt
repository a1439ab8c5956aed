use Rattle.std.proofs.Common.{◌≡◌}
use Rattle.press_bits.specs.Changes.{with_lines}
use Rattle.press_bits.proofs.changes.take_lines.Given as goal

abbrev pub invariant-loop-y : goal.invariant-loop-y
invariant-loop-y l =
    (l.page.ready ≡ l.initial.page.ready)
    × (l.page.page ≡ with_lines l.initial.page.page l.other.page l.first l.y)
