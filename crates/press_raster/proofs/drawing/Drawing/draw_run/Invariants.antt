use Rattle.std.proofs.Common.{◌≡◌, ◌-◌, replicate, Some}
use Rattle.press_raster.specs.Drawing.{IsSetUp, RowsReady, drawn_by, layout}
use Rattle.press_raster.specs.Rows.{with_items}
use Rattle.press_raster.proofs.drawing.Drawing.draw_run.Given as goal

-- the rows that are left give what all of them give
abbrev pub invariant-loop-drawn : goal.invariant-loop-drawn
invariant-loop-drawn l = record {
  items : with_items l.setup.environment l.setup.settings l.brush (replicate (l.count - l.drawn) (Some (l.row.method, l.row.bytes.now))) (drawn_by l.setup l.self l.frame l.cursor)
      ≡ with_items l.setup.environment l.setup.settings l.brush (replicate l.count (Some (l.row.method, l.row.bytes.now))) (drawn_by l.setup l.fn.self l.fn.frame l.fn.cursor);
  same_layout : layout l.frame ≡ layout l.fn.frame;
  setup : IsSetUp l.setup (layout l.fn.frame) l.self;
  ready : RowsReady l.setup (layout l.fn.frame) l.cursor.y (l.count - l.drawn);
}
