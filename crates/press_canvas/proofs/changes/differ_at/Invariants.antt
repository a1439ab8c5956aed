use Rattle.press_canvas.specs.Changes.{AgreeAt}
use Rattle.press_canvas.proofs.changes.differ_at.Given as goal

abbrev pub invariant-loop-y : goal.invariant-loop-y
invariant-loop-y l = AgreeAt l.before l.after l.top l.y l.column
