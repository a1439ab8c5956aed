use Rattle.std.proofs.Common.{◌≡◌, length}
use Rattle.press_rows.specs.Blocks.{count_rows}
use Rattle.press_raster.specs.Drawing.{IsSetUp, RowsReady, drawn_by, layout}
use Rattle.press_raster.specs.Rows.{with_items}
use Rattle.press_raster.proofs.drawing.Drawing.draw_blocks.Given as goal

-- the items that are left give what all of them give
abbrev pub invariant-loop-run : goal.invariant-loop-run
invariant-loop-run l = record {
  items : with_items l.setup.environment l.setup.settings l.brush l.blocks (drawn_by l.setup l.self l.frame l.cursor)
      ≡ with_items l.setup.environment l.setup.settings l.brush l.fn.blocks (drawn_by l.setup l.fn.self l.fn.frame l.fn.cursor);
  same_layout : layout l.frame ≡ layout l.fn.frame;
  setup : IsSetUp l.setup (layout l.fn.frame) l.self;
  ready : RowsReady l.setup (layout l.fn.frame) l.cursor.y (count_rows l.blocks);
}

abbrev pub decreases-loop-run : goal.decreases-loop-run
decreases-loop-run l = length l.blocks
