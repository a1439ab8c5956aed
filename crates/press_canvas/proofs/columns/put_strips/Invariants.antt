use Rattle.std.proofs.Common.{◌≡◌, ◌+◌, ◌*◌, length}
use Rattle.press_canvas.specs.Strip.{columns_before}
use Rattle.press_canvas.proofs.columns.put_strips.Given as goal

-- the columns so far are lines
abbrev pub invariant-loop-index : goal.invariant-loop-index
invariant-loop-index l = record {
  room : length l.room ≡ 2048;
  long : length l.strip ≡ 135168;
  page : l.page ≡ columns_before l.back l.frame.height l.frame.width l.frame (64 * l.index);
}

abbrev pub invariant-loop-line : goal.invariant-loop-line
invariant-loop-line l = record {
  room : length l.room ≡ 2048;
  page : l.page ≡ columns_before l.back l.frame.height l.frame.width l.frame (64 * l.index + l.line);
}
