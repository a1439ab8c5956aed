-- The lines that are ready for rows one below the other.
use Rattle.std.proofs.Common.{◌≡◌, ◌+◌, ◌-◌, ◌*◌, ◌/◌, ◌≤◌, ◌⊎◌, ℕ, zero, suc, Bool, true, false, replicate, Some, None, refl, ap, subst, min, inl, inr, arith, rules}
use Rattle.std.specs.Prelude.{ℤ, pos, negsuc, ◌+ℤ◌, int_le, int_lt, if◌then◌else◌}
use Rattle.std.proofs.Math.Nat.{suc-mul, le-mul_of_pos_right}
use Rattle.std.proofs.lemmas.Bool.{cases_lt}
use Rattle.press_units.specs.Position.{dot_of, positions_per_dot}
use Rattle.press_units.specs.declared.position.Resolution.{Resolution}
use Rattle.press_bits.specs.Bands.{BandedPage, AreReady}
use Rattle.press_bits.specs.Page.{longest_side}
use Rattle.press_cursor.specs.Bounds.{nearest_y}
use Rattle.press_cursor.specs.declared.logical_page.LogicalPage.{LogicalPage}
use Rattle.press_page.specs.Environment.{logical_page_of}
use Rattle.press_page.specs.Place.{lines_below}
use Rattle.press_page.specs.declared.place.FrameLines.{FrameLines}
use Rattle.press_pattern.specs.declared.brush.Brush.{Brush}
use Rattle.press_rows.specs.Blocks.{Item}
use Rattle.press_raster.specs.Across.{AcrossReady}
use Rattle.press_raster.specs.Drawing.{IsSetUp, Layout, RowsReady, laid_out, last_line, lines_at, lines_of_row}
use Rattle.press_raster.specs.Graphics.{takes_row}
use Rattle.press_raster.specs.Rows.{Drawn, with_item, with_items, with_row}
use Rattle.press_raster.specs.Settings.{dot_size, row_height}
use Rattle.press_raster.specs.Transfer.{row_corner}
use Rattle.press_raster.specs.declared.drawing.Drawing.{Drawing}
use Rattle.press_raster.specs.declared.drawing.RowSetup.{RowSetup}
use Rattle.press_raster.specs.declared.settings.RasterResolution.{RasterResolution}

-- ---- lines of a strip

-- a part of a strip, as far as the frame goes
pub strip_within : (frame : BandedPage) (first lines line size : ℕ) → first ≤ line → min frame.page.height (line + size) ≤ first + lines →
    AreReady frame (pos first) lines → AreReady frame (pos line) size
strip_within frame first lines line size begins ends ready = grind arith

-- ---- heights of rows

-- a dot of a row is no higher than the lines that a row takes, and a row takes a line at least
pub size_fits : (rows : RasterResolution) (page : Resolution) →
    (dot_size rows page ≤ (row_height rows + (positions_per_dot page - 1)) / positions_per_dot page) × (1 ≤ (row_height rows + (positions_per_dot page - 1)) / positions_per_dot page)
size_fits rows page = grind arith

-- positions that are so close lie on lines so close
lines_apart : (page : Resolution) (h a b l : ℕ) → min a l ≤ b → b ≤ a + h →
    (min (a / positions_per_dot page) (l / positions_per_dot page) ≤ b / positions_per_dot page)
    × (b / positions_per_dot page ≤ a / positions_per_dot page + (h + (positions_per_dot page - 1)) / positions_per_dot page)
lines_apart page h a b l least most = grind arith

-- ---- a move down

-- how far a position lies below the upper edge; above it, 0
abbrev pub below_edge : ℤ → ℕ
below_edge (pos n) = n
below_edge (negsuc n) = 0

-- it is the position, or the position lies above the edge
pub below_edge_is : (z : ℤ) → ((int_le (pos 0) z ≡ true) × (z ≡ pos (below_edge z))) ⊎ ((int_lt z (pos 0) ≡ true) × (below_edge z ≡ 0))
below_edge_is z = grind arith

-- a move down goes no further than its distance, and up no further than to the lower edge of the logical page
pub moved_edge : (y : ℤ) (h : ℕ) (page : LogicalPage) →
    (min (below_edge (y +ℤ pos page.top_margin)) page.length ≤ below_edge (nearest_y (y +ℤ pos h) page +ℤ pos page.top_margin))
    × (below_edge (nearest_y (y +ℤ pos h) page +ℤ pos page.top_margin) ≤ below_edge (y +ℤ pos page.top_margin) + h)
moved_edge y h page = search (rules, below_edge_is)

-- ---- rows one below the other

-- the first line of the frame that is covered from a position on, and how many there are
pub first_line : (y : ℤ) (page : Resolution) (size : ℕ) → (lines_below (dot_of y page) size).first ≡ below_edge y / positions_per_dot page
first_line y page size = grind arith

pub no_more_lines : (line : ℤ) (size : ℕ) → (lines_below line size).count ≤ size
no_more_lines line size = grind arith

-- one of them, as a drawing is set up for it
pub row_ready : (setup : RowSetup) (page : Layout) (drawing : Drawing) (y : ℤ) (lines : FrameLines) → IsSetUp setup page drawing → lines ≡ lines_at setup y → RowsReady setup page y 1 →
    AcrossReady setup.across (laid_out page) lines.first lines.count
row_ready setup page drawing y lines is here ready some =
    let size : setup.across.size ≡ dot_size setup.settings.resolution setup.environment.page_setup.resolution = ap (λ (s : RowSetup). s.across.size) is.same in
    let fits = (size_fits setup.settings.resolution setup.environment.page_setup.resolution).0 in
    let first : lines.first ≡ (lines_at setup y).first = ap (λ (l : FrameLines). l.first) here in
    let count : lines.count ≡ (lines_at setup y).count = ap (λ (l : FrameLines). l.count) here in
    let fewer : (lines_at setup y).count ≤ setup.across.size = no_more_lines (row_corner (record { environment = setup.environment; y = y }) 0).y setup.across.size in
    strip_within (laid_out page) ready.first ready.lines lines.first lines.count
    (omega (arith, first, ready.begins)) (omega (arith, first, count, fewer, ready.ends, size, fits)) (ready.ready some)

-- fewer of them
pub rows_ready-fewer : (setup : RowSetup) (page : Layout) (y : ℤ) (m n : ℕ) → m ≤ n → RowsReady setup page y n → RowsReady setup page y m
rows_ready-fewer setup page y m n fewer ready = grind arith

-- rows below the first
pub rows_ready-moved : (setup : RowSetup) (page : Layout) (y : ℤ) (n : ℕ) → RowsReady setup page y (suc n) →
    RowsReady setup page (nearest_y (y +ℤ pos (row_height setup.settings.resolution)) (logical_page_of setup.environment)) n
rows_ready-moved setup page y n ready =
    let h = row_height setup.settings.resolution in
    let logical = logical_page_of setup.environment in
    let top = setup.environment.margins.top in
    let edge = moved_edge y h logical in
    let apart = lines_apart setup.environment.page_setup.resolution h (below_edge (y +ℤ pos top)) (below_edge (nearest_y (y +ℤ pos h) logical +ℤ pos top)) logical.length edge.0 edge.1 in
    let more : suc n * lines_of_row setup ≡ n * lines_of_row setup + lines_of_row setup = suc-mul n (lines_of_row setup) in
    let before = first_line (y +ℤ pos top) setup.environment.page_setup.resolution setup.across.size in
    let after = first_line (nearest_y (y +ℤ pos h) logical +ℤ pos top) setup.environment.page_setup.resolution setup.across.size in
    record {
      first = ready.first;
      lines = ready.lines;
      ready = ready.ready;
      begins = omega (arith, ready.begins, ready.begins_last, apart.0, before, after);
      begins_last = ready.begins_last;
      ends = omega (arith, ready.ends, more, apart.1, before, after);
    }

-- rows behind an item
pub rows_ready-next : (setup : RowSetup) (brush : Brush) (page : Layout) (d : Drawn) (item : Item) (n : ℕ) → RowsReady setup page d.cursor.y (suc n) →
    RowsReady setup page (with_item setup.environment setup.settings brush d item).cursor.y n
rows_ready-next setup brush page d None n ready = rows_ready-fewer setup page d.cursor.y n (suc n) (omega arith) ready
rows_ready-next setup brush page d (Some row) n ready = behind (takes_row setup.settings d.graphics)
  where
    behind : (taken : Bool) → RowsReady setup page (if taken then with_row setup.environment setup.settings brush row.0 row.1 d else d).cursor.y n
    behind true = rows_ready-moved setup page d.cursor.y n ready
    behind false = rows_ready-fewer setup page d.cursor.y n (suc n) (omega arith) ready

-- rows behind a run
pub rows_ready-after : (setup : RowSetup) (brush : Brush) (page : Layout) (d : Drawn) (item : Item) (n m k : ℕ) → k ≡ n + m → RowsReady setup page d.cursor.y k →
    RowsReady setup page (with_items setup.environment setup.settings brush (replicate n item) d).cursor.y m
rows_ready-after setup brush page d item zero m k is ready = grind arith
rows_ready-after setup brush page d item (suc n) m k is ready =
    let more : k ≡ suc (n + m) = omega (arith, is) in
    rows_ready-after setup brush page (with_item setup.environment setup.settings brush d item) item n m (n + m) refl
    (rows_ready-next setup brush page d item (n + m) (subst (RowsReady setup page d.cursor.y) more ready))

-- the lines that are made ready: those of so many rows, or of as many as a page has lines
pub rows_ready-made : (setup : RowSetup) (page : Layout) (y : ℤ) (rows count first lines : ℕ) → rows ≡ min longest_side count →
    first ≡ min (lines_at setup y).first (last_line setup.environment) →
    page.height ≤ longest_side → lines ≡ min page.height (((lines_at setup y).first - first) + rows * lines_of_row setup) →
    AcrossReady setup.across (laid_out page) first lines → RowsReady setup page y count
rows_ready-made setup page y rows count first lines most from small long ready =
    let s : ℕ = lines_of_row setup in
    let some : 1 ≤ s = (size_fits setup.settings.resolution setup.environment.page_setup.resolution).1 in
    record {
      first = first;
      lines = lines;
      ready = ready;
      begins = omega (arith, from);
      begins_last = omega (arith, from);
      ends = elim (cases_lt longest_side count) [
        | inl many ↦ omega (arith, from, small, long, le-mul_of_pos_right rows some, most, many)
        | inr few ↦ grind (arith, from, long, most, few)
      ];
    }
