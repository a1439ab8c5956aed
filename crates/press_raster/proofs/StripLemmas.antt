-- What a strip of the frame leaves, line by line.
use Rattle.std.proofs.Common.{◌≡◌, ℕ, ◌+◌, ◌-◌, ◌*◌, ◌/◌, ◌<◌, min, Bool, false, refl, sym, ap, ◌∙◌, arith, inr}
use Rattle.std.specs.Prelude.{pos}
use Rattle.std.proofs.lemmas.Bool.Decides.{nat_tests}
use Rattle.press_bits.specs.Mark.{Row, effect_at, painted, row_dot, repeated, row_mark}
use Rattle.press_bits.specs.Page.{Page, HasNoDotOutside}
use Rattle.press_bits.specs.declared.mode.Mode.{Mode}
use Rattle.press_bits.proofs.MarkLemmas.{painted_same_effects, painted_joined, unmarked, effect_where, chosen}
use Rattle.press_bits.proofs.MarkLemmas.{joined, in_box, box_none, cut_tests, row_lands, width-painted, height-painted}
use Rattle.press_page.specs.PageSetup.{turned}
use Rattle.press_page.specs.Place.{placed_dot}
use Rattle.press_page.specs.declared.media.Orientation.{Orientation}
use Rattle.press_page.specs.declared.media.Orientation.TheVariants.{Portrait}
use Rattle.press_page.specs.declared.place.Extent.{Extent}
use Rattle.press_page.specs.declared.place.FrameLines.{FrameLines}
use Rattle.press_pattern.specs.Tiling.{Tiling, tile_dot, tile_line}
use Rattle.press_pattern.specs.declared.brush.Brush.{Brush}
use Rattle.press_canvas.specs.Turned.{page_of_frame}
use Rattle.press_canvas.proofs.FrameLemmas.{painted_frame}
use Rattle.press_raster.specs.Mark.{strip_source, strip_mark, row_strip, row_on_frame}

-- the frame of a page of these sizes
abbrev pub frame_of : Orientation → (width height : ℕ) → Extent
frame_of orientation width height = turned orientation (record { width = width; height = height })

module _ (orientation : Orientation) (width height : ℕ) where
  -- the column and the line of the frame at a dot of the page
  abbrev pub column_at : (x y : ℕ) → ℕ
  column_at x y = (placed_dot orientation width height x y).0

  abbrev pub line_at : (x y : ℕ) → ℕ
  line_at x y = (placed_dot orientation width height x y).1

  -- what a strip does to a dot of the page
  pub effect_at-strip_mark : (left top columns lines : ℕ) (dots : ℕ → Bool) (tile : Tiling) (mode : Mode) (x y : ℕ) →
      effect_at (strip_mark orientation width height left top columns lines dots tile mode) x y
      ≡ effect_where (in_box left top columns lines (column_at x y) (line_at x y)) mode (dots (column_at x y - left)) (tile_dot tile (column_at x y) (line_at x y))
  unfolding effect_at strip_source
  effect_at-strip_mark left top columns lines dots tile mode x y =
      chosen (in_box left top columns lines (column_at x y) (line_at x y)) (dots (column_at x y - left)) (tile_dot tile (column_at x y) (line_at x y)) mode

  -- a dot of the page lies in the frame
  pub column_within : (x y : ℕ) → x < width → y < height → column_at x y < (frame_of orientation width height).width
  column_within x y wide high = grind arith

  pub line_within : (x y : ℕ) → x < width → y < height → line_at x y < (frame_of orientation width height).height
  line_within x y wide high = grind arith

module _ (orientation : Orientation) (page : Page) where
  -- a strip without columns, or without lines, paints nothing
  pub painted_strip_no_columns : (left top lines : ℕ) (dots : ℕ → Bool) (tile : Tiling) (mode : Mode) → HasNoDotOutside page →
      page ≡ painted page (strip_mark orientation page.width page.height left top 0 lines dots tile mode)
  painted_strip_no_columns left top lines dots tile mode none =
      unmarked page (strip_mark orientation page.width page.height left top 0 lines dots tile mode) none
      (λ x y _ _. grind (arith, nat_tests, effect_at-strip_mark))

  pub painted_strip_no_lines : (left top columns : ℕ) (dots : ℕ → Bool) (tile : Tiling) (mode : Mode) → HasNoDotOutside page →
      page ≡ painted page (strip_mark orientation page.width page.height left top columns 0 dots tile mode)
  painted_strip_no_lines left top columns dots tile mode none =
      unmarked page (strip_mark orientation page.width page.height left top columns 0 dots tile mode) none
      (λ x y _ _. grind (arith, effect_at-strip_mark, box_none))

  -- nor does a strip of white dots that are transparent
  pub painted_strip_white : (left top columns lines : ℕ) (dots : ℕ → Bool) (tile : Tiling) (mode : Mode) → HasNoDotOutside page →
      mode.source_opaque ≡ false → ((i : ℕ) → dots i ≡ false) →
      page ≡ painted page (strip_mark orientation page.width page.height left top columns lines dots tile mode)
  painted_strip_white left top columns lines dots tile mode none transparent white =
      unmarked page (strip_mark orientation page.width page.height left top columns lines dots tile mode) none
      (λ x y _ _.
      grind (arith, effect_at-strip_mark, white (column_at orientation page.width page.height x y - left)))

  -- what lies outside the frame may be cut off a strip
  pub painted_strip_cut : (left top columns lines columns' lines' : ℕ) (dots : ℕ → Bool) (tile : Tiling) (mode : Mode) →
      min (left + columns) (frame_of orientation page.width page.height).width ≡ min (left + columns') (frame_of orientation page.width page.height).width →
      min (top + lines) (frame_of orientation page.width page.height).height ≡ min (top + lines') (frame_of orientation page.width page.height).height →
      painted page (strip_mark orientation page.width page.height left top columns lines dots tile mode)
      ≡ painted page (strip_mark orientation page.width page.height left top columns' lines' dots tile mode)
  painted_strip_cut left top columns lines columns' lines' dots tile mode wide high =
      painted_same_effects page
      (strip_mark orientation page.width page.height left top columns lines dots tile mode)
      (strip_mark orientation page.width page.height left top columns' lines' dots tile mode)
      (λ x y right low.
      let dot = placed_dot orientation page.width page.height x y in
      let across = cut_tests left columns columns' (frame_of orientation page.width page.height).width dot.0 wide (column_within orientation page.width page.height x y right low) in
      let down = cut_tests top lines lines' (frame_of orientation page.width page.height).height dot.1 high (line_within orientation page.width page.height x y right low) in
      grind (arith, effect_at-strip_mark, across, down))

  -- strips whose dots are the same paint alike
  pub painted_strip_same : (left top columns lines : ℕ) (dots dots' : ℕ → Bool) (tile : Tiling) (mode : Mode) →
      ((i : ℕ) → i < columns → dots i ≡ dots' i) →
      painted page (strip_mark orientation page.width page.height left top columns lines dots tile mode)
      ≡ painted page (strip_mark orientation page.width page.height left top columns lines dots' tile mode)
  painted_strip_same left top columns lines dots dots' tile mode same =
      painted_same_effects page
      (strip_mark orientation page.width page.height left top columns lines dots tile mode)
      (strip_mark orientation page.width page.height left top columns lines dots' tile mode)
      (λ x y _ _. grind (arith, nat_tests, effect_at-strip_mark, same (column_at orientation page.width page.height x y - left)))

repeated-tile_line : (tile : Tiling) (column line : ℕ) → repeated (tile_line tile line) column ≡ tile_dot tile column line
unfolding repeated tile_dot
repeated-tile_line tile column line = refl

-- source dots along a line of the frame, through the dots of a line of a tile, are a strip of one line
pub painted_row : (frame : Page) (left line : ℕ) (source : Row) (tile : Tiling) (mode : Mode) →
    painted frame (row_mark (pos left) (pos line) source (tile_line tile line) mode)
    ≡ painted frame (strip_mark Portrait frame.width frame.height left line source.dots 1 (row_dot source.bits) tile mode)
painted_row frame left line source tile mode =
    painted_same_effects frame
    (row_mark (pos left) (pos line) source (tile_line tile line) mode)
    (strip_mark Portrait frame.width frame.height left line source.dots 1 (row_dot source.bits) tile mode)
    (λ x y right low.
    grind (
      arith,
      nat_tests,
      effect_at-strip_mark,
      repeated-tile_line tile x line,
      row_lands (pos left) (pos line) source (tile_line tile line) mode left 0 source.dots line (x + 1 + left + source.dots) x y
          (ap pos (omega arith)) (inr refl) refl (omega arith) (omega arith),
    ))

-- one more line of a strip
pub painted_strip_line : (orientation : Orientation) (page before after : Page) (left top columns n : ℕ) (dots : ℕ → Bool) (tile : Tiling) (mode : Mode) →
    before ≡ painted page (strip_mark orientation page.width page.height left top columns n dots tile mode) →
    after ≡ painted before (strip_mark orientation before.width before.height left (top + n) columns 1 dots tile mode) →
    after ≡ painted page (strip_mark orientation page.width page.height left top columns (n + 1) dots tile mode)
painted_strip_line orientation page before after left top columns n dots tile mode so_far is =
    is
    ∙ (λ i. painted (so_far i) (strip_mark orientation (wide i) (high i) left (top + n) columns 1 dots tile mode))
    ∙ painted_joined page (strip_mark orientation page.width page.height left top columns n dots tile mode)
    (strip_mark orientation page.width page.height left (top + n) columns 1 dots tile mode)
    (strip_mark orientation page.width page.height left top columns (n + 1) dots tile mode)
    (λ x y dot right low.
    grind (arith, nat_tests, effect_at-strip_mark, joined))
  where
    wide : before.width ≡ page.width
    wide = grind (arith, so_far, width-painted page (strip_mark orientation page.width page.height left top columns n dots tile mode))

    high : before.height ≡ page.height
    high = grind (arith, so_far, height-painted page (strip_mark orientation page.width page.height left top columns n dots tile mode))

-- a strip of the columns of a raster row that lie on the page is the row
pub painted_raster : (orientation : Orientation) (page : Page) (left : ℕ) (lines : FrameLines) (size columns : ℕ) (source : Row) (dots : ℕ → Bool) (brush : Brush) →
    min (left + size * source.dots) (frame_of orientation page.width page.height).width ≡ min (left + columns) (frame_of orientation page.width page.height).width →
    ((i : ℕ) → i < columns → dots i ≡ row_dot source.bits (i / size)) →
    painted page (strip_mark orientation page.width page.height left lines.first columns lines.count dots brush.tile brush.mode)
    ≡ painted page (row_strip orientation page left lines size source brush)
painted_raster orientation page left lines size columns source dots brush cut same =
    painted_strip_same orientation page left lines.first columns lines.count dots (λ i. row_dot source.bits (i / size)) brush.tile brush.mode same
    ∙ painted_strip_cut orientation page left lines.first columns lines.count (size * source.dots) lines.count (λ i. row_dot source.bits (i / size)) brush.tile brush.mode (sym cut) refl

-- a row that is painted on the frame is painted on its page
pub row_turned : (orientation : Orientation) (frame after : Page) (left : ℕ) (lines : FrameLines) (size : ℕ) (source : Row) (brush : Brush) →
    after ≡ painted frame (row_on_frame left lines size source brush frame) →
    page_of_frame orientation after ≡ painted (page_of_frame orientation frame) (row_strip orientation (page_of_frame orientation frame) left lines size source brush)
row_turned orientation frame after left lines size source brush is = grind (arith, is, painted_frame orientation frame (row_on_frame left lines size source brush frame))
