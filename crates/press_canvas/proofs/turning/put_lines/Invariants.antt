use Rattle.std.proofs.Common.{◌≡◌, length}
use Rattle.press_canvas.specs.Turned.{turned_before, upright}
use Rattle.press_canvas.proofs.turning.put_lines.Given as goal

-- the lines so far are written
abbrev pub invariant-loop-y : goal.invariant-loop-y
invariant-loop-y l = record {
  room : length l.room ≡ 2048;
  page : l.page ≡ turned_before (upright l.back) l.frame.width l.frame.height l.frame l.y;
}
