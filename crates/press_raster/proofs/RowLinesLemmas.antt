-- The lines of a frame that rows mark, one below the other.
use Rattle.std.proofs.Common.{◌≡◌, ◌+◌, ◌*◌, ◌/◌, ◌<◌, ◌≤◌, ◌⊎◌, ℕ, false, List, [], ◌∷◌, Option, inl, inr, arith, rules}
use Rattle.std.specs.Prelude.{ℤ, pos, ◌+ℤ◌}
use Rattle.std.proofs.lemmas.Bool.Decides.{nat_tests}
use Rattle.press_units.specs.Position.{positions_per_dot}
use Rattle.press_units.specs.declared.position.Resolution.{Resolution}
use Rattle.press_bits.specs.Mark.{Row, marked_dot, painted, row_dot}
use Rattle.press_bits.specs.Page.{Page, black_at}
use Rattle.press_bits.proofs.MarkLemmas.{black_at-painted, height-painted, in_box, width-painted}
use Rattle.press_canvas.specs.Changes.{AgreeBesideLines}
use Rattle.press_cursor.specs.Bounds.{nearest_y}
use Rattle.press_cursor.specs.declared.logical_page.LogicalPage.{LogicalPage}
use Rattle.press_page.specs.Environment.{logical_page_of}
use Rattle.press_page.specs.Place.{lines_below}
use Rattle.press_page.specs.declared.environment.PageEnv.{PageEnv}
use Rattle.press_page.specs.declared.media.Orientation.{Orientation}
use Rattle.press_page.specs.declared.place.FrameLines.{FrameLines}
use Rattle.press_pattern.specs.declared.brush.Brush.{Brush}
use Rattle.press_rows.specs.Blocks.{Item}
use Rattle.press_rows.specs.declared.compression.Method.{Method}
use Rattle.press_raster.specs.Graphics.{RasterGraphics}
use Rattle.press_raster.specs.Mark.{row_strip}
use Rattle.press_raster.specs.Rows.{Drawn, with_item, with_items, with_row}
use Rattle.press_raster.specs.Settings.{dot_size, row_height}
use Rattle.press_raster.specs.Transfer.{page_with_row, row_corner, transfer_mark, row_of_data}
use Rattle.press_raster.specs.Widening.{IsDotSize}
use Rattle.press_raster.specs.declared.raster.RowPlace.{RowPlace}
use Rattle.press_raster.specs.declared.settings.RasterSettings.{RasterSettings}
use Rattle.press_raster.proofs.RowsReadyLemmas.{below_edge, below_edge_is, first_line, no_more_lines}
use Rattle.press_raster.proofs.StripLemmas.{column_at, effect_at-strip_mark, line_at}

-- ---- a strip of a frame

beside_strip : (orientation : Orientation) (page : Page) (column : ℕ) (lines : FrameLines) (size : ℕ) (row : Row) (brush : Brush) (x y : ℕ) →
    x < page.width → y < page.height →
    (let line = line_at orientation page.width page.height x y in (line < lines.first) ⊎ (lines.first + lines.count ≤ line)) →
    black_at (painted page (row_strip orientation page column lines size row brush)) x y ≡ black_at page x y
unfolding marked_dot
beside_strip orientation page column lines size row brush x y wide high out =
    let missed : in_box column lines.first (size * row.dots) lines.count (column_at orientation page.width page.height x y) (line_at orientation page.width page.height x y) ≡ false =
    grind (arith, nat_tests) in
    grind (arith, black_at-painted page (row_strip orientation page column lines size row brush) x y wide high, effect_at-strip_mark orientation page.width page.height column lines.first (size * row.dots) lines.count (λ i. row_dot row.bits (i / size)) brush.tile brush.mode x y, missed)

-- ---- lines one below the other

lower_line : (page : Resolution) (a b : ℕ) → a ≤ b → a / positions_per_dot page ≤ b / positions_per_dot page
lower_line page a b below = grind arith

-- a move down from a place that is not below the logical page
moved_down : (y : ℤ) (h : ℕ) (page : LogicalPage) → below_edge (y +ℤ pos page.top_margin) ≤ page.length →
    (below_edge (y +ℤ pos page.top_margin) ≤ below_edge (nearest_y (y +ℤ pos h) page +ℤ pos page.top_margin))
    × (below_edge (nearest_y (y +ℤ pos h) page +ℤ pos page.top_margin) ≤ page.length)
moved_down y h page within = search (rules, below_edge_is)

most_size : (size : ℕ) → IsDotSize size → size ≤ 8
most_size size h1 = grind arith

module _ (environment : PageEnv) (settings : RasterSettings) (brush : Brush) where
  -- pages agree beside lines of the frame
  abbrev pub Agree : (first end : ℕ) → (before after : Page) → Type 0
  Agree = AgreeBesideLines environment.page_setup.orientation

  -- how far a place lies below the upper edge, and on which line
  abbrev pub edge : ℤ → ℕ
  edge y = below_edge (y +ℤ pos environment.margins.top)

  abbrev pub line : ℤ → ℕ
  line y = edge y / positions_per_dot environment.page_setup.resolution

  -- Rows led from one page to another, which agree beside their lines.
  pub record Leads (before after : Drawn) : Type 0 where
    pub down : edge before.cursor.y ≤ edge after.cursor.y
    pub within : edge after.cursor.y ≤ (logical_page_of environment).length
    pub width : after.page.width ≡ before.page.width
    pub height : after.page.height ≡ before.page.height
    pub beside : Agree (line before.cursor.y) (line after.cursor.y + 8) before.page after.page

  none : (drawn : Drawn) (graphics : Option RasterGraphics) → edge drawn.cursor.y ≤ (logical_page_of environment).length →
      Leads drawn (record drawn { graphics = graphics })
  none drawn graphics within = grind arith

  -- the page with a row
  abbrev page_at : (y : ℤ) → Method → List ℕ → Option RasterGraphics → Page → Page
  page_at y method «data» graphics page = page_with_row (record { environment = environment; y = y }) settings brush method «data» graphics page

  marked : (y : ℤ) (method : Method) («data» : List ℕ) (on : RasterGraphics) (page : Page) →
      let after : Page = painted page (transfer_mark (record { environment = environment; y = y }) settings brush method «data» on page) in
      (after.width ≡ page.width) × (after.height ≡ page.height) × Agree (line y) (line y + 8) page after
  marked y method «data» on page =
      let place : RowPlace = record { environment = environment; y = y } in
      let size = dot_size settings.resolution environment.page_setup.resolution in
      let first = first_line (y +ℤ pos environment.margins.top) environment.page_setup.resolution size in
      let few = most_size size (grind arith) in
      let corner = row_corner place on.left in
      let fewer = no_more_lines corner.y size in
      let mark = transfer_mark place settings brush method «data» on page in (
        width-painted page mark,
        height-painted page mark,
        λ x n wide high out.
            beside_strip environment.page_setup.orientation page corner.x (lines_below corner.y size) size (row_of_data place settings method «data» on) brush x n wide high
            (elim out [
              | inl above ↦ inl (omega (arith, above, first))
              | inr below ↦ inr (omega (arith, below, first, few, fewer))
            ]),
      )

  row_page : (y : ℤ) (method : Method) («data» : List ℕ) (graphics : Option RasterGraphics) (page : Page) →
      ((page_at y method «data» graphics page).width ≡ page.width) × ((page_at y method «data» graphics page).height ≡ page.height)
      × Agree (line y) (line y + 8) page (page_at y method «data» graphics page)
  row_page y method «data» graphics page = grind (arith, marked)

  row_leads : (method : Method) («data» : List ℕ) (drawn : Drawn) → edge drawn.cursor.y ≤ (logical_page_of environment).length →
      Leads drawn (with_row environment settings brush method «data» drawn)
  row_leads method «data» drawn within =
      let moved = moved_down drawn.cursor.y (row_height settings.resolution) (logical_page_of environment) within in
      let page = row_page drawn.cursor.y method «data» drawn.graphics drawn.page in
      let lower = lower_line environment.page_setup.resolution (edge drawn.cursor.y) (edge (with_row environment settings brush method «data» drawn).cursor.y) moved.0 in record {
        down = moved.0;
        within = moved.1;
        width = page.0;
        height = page.1;
        beside = λ x y wide high out. page.2 x y wide high (elim out [
          | inl above ↦ inl above
          | inr below ↦ inr (omega (arith, below, lower))
        ]);
      }

  item_leads : (item : Item) (drawn : Drawn) → edge drawn.cursor.y ≤ (logical_page_of environment).length → Leads drawn (with_item environment settings brush drawn item)
  item_leads item drawn within = grind (arith, row_leads)

  -- what rows leave as it was
  pub rows_lead : (items : List Item) (drawn : Drawn) → edge drawn.cursor.y ≤ (logical_page_of environment).length → Leads drawn (with_items environment settings brush items drawn)
  rows_lead [] drawn within = none drawn drawn.graphics within
  rows_lead (item ∷ items) drawn within =
      grind (arith, item_leads, rows_lead items (with_item environment settings brush drawn item) (item_leads item drawn within).within)
