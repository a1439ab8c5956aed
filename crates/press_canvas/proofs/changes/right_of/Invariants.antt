use Rattle.std.proofs.Common.{ℕ, ◌-◌, ◌<◌, ◌≤◌}
use Rattle.press_canvas.specs.Changes.{AgreeAt}
use Rattle.press_canvas.proofs.changes.right_of.Given as goal

abbrev pub invariant-loop-count : goal.invariant-loop-count
invariant-loop-count l = (x : ℕ) → l.end - l.count ≤ x → x < l.end → AgreeAt l.before l.after l.region.top l.region.bottom x
