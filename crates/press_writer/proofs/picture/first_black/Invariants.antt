use Rattle.std.proofs.Common.{◌≡◌, ◌≤◌, ◌-◌}
use Rattle.press_rows.specs.declared.compression.Method.{Method}
use Rattle.press_writer.specs.Picture.{raster_rows, row_before, rows_from}
use Rattle.press_writer.proofs.picture.first_black.Given as goal

-- the rows from the first line on are all white up to this one
abbrev pub invariant-loop-line : goal.invariant-loop-line
invariant-loop-line l = record {
  behind : l.from ≤ l.line;
  skips : (method : Method) → raster_rows method (row_before l.image l.from) 0 (rows_from l.image l.from)
      ≡ raster_rows method (row_before l.image l.line) (l.line - l.from) (rows_from l.image l.line);
}

abbrev pub decreases-loop-line : goal.decreases-loop-line
decreases-loop-line l = l.image.height - l.line
