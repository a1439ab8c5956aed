use Rattle.std.proofs.Common.{ℕ, ◌<◌, ◌≤◌}
use Rattle.press_canvas.specs.Changes.{AgreeAt}
use Rattle.press_canvas.proofs.changes.left_of.Given as goal

abbrev pub invariant-loop-column : goal.invariant-loop-column
invariant-loop-column l = (x : ℕ) → l.first ≤ x → x < l.column → AgreeAt l.before l.after l.region.top l.region.bottom x
