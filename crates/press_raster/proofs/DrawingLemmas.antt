-- Rows that are drawn one below the other, and data of which no row has effect.
use Rattle.std.proofs.Common.{◌≡◌, ◌∙◌, ◌+◌, ℕ, zero, suc, Bool, true, false, if◌then◌else◌, List, [], ◌∷◌, ◌++◌, replicate, Some, None, refl, sym, ap, rules, arith}
use Rattle.std.specs.Prelude.{◌&&◌, is_some, is_none, nat_lt, pos}
use Rattle.std.specs.List.{list_any}
use Rattle.std.proofs.lemmas.Bool.{true≢false}
use Rattle.std.proofs.lemmas.Bool.Decides.{nat_tests}
use Rattle.std.proofs.lemmas.List.Sums.{fold-append}
use Rattle.press_bits.specs.Bands.{BandedPage}
use Rattle.press_bits.specs.Lines.{bytes_per_line}
use Rattle.press_bits.specs.Mark.{painted}
use Rattle.press_bits.specs.Page.{Page}
use Rattle.press_cursor.specs.Cursor.{moved_y}
use Rattle.press_cursor.specs.CursorState.{CursorState}
use Rattle.press_page.specs.Environment.{logical_page_of}
use Rattle.press_page.specs.declared.environment.PageEnv.{PageEnv}
use Rattle.press_page.specs.declared.place.FrameLines.{FrameLines}
use Rattle.press_pattern.specs.declared.brush.Brush.{Brush}
use Rattle.press_canvas.specs.Turned.{page_of_frame}
use Rattle.press_rows.specs.Blocks.{Item, count_rows}
use Rattle.press_rows.specs.Row.{fitted, raster_row}
use Rattle.press_rows.specs.declared.compression.Method.{Method}
use Rattle.press_raster.specs.Drawing.{IsSetUp, drawn_by, layout, lines_at, one_row_on, setup_of}
use Rattle.press_raster.specs.Graphics.{RasterGraphics, graphics, is_below_height, takes_row, trimmed, whitened}
use Rattle.press_raster.specs.Mark.{row_on_frame}
use Rattle.press_raster.specs.Rows.{Drawn, drawn, with_item, with_items}
use Rattle.press_raster.specs.Settings.{row_height}
use Rattle.press_raster.specs.Transfer.{row_dots}
use Rattle.press_raster.specs.declared.drawing.Drawing.{Drawing}
use Rattle.press_raster.specs.declared.drawing.RowSetup.{RowSetup}
use Rattle.press_raster.specs.declared.raster.RasterPosition.{RasterPosition}
use Rattle.press_raster.specs.declared.raster.RowPlace.{RowPlace}
use Rattle.press_raster.specs.declared.settings.RasterSettings.{RasterSettings}
use Rattle.press_raster.proofs.DecodingLemmas.{fitted_twice, raster_row-fitted}
use Rattle.press_raster.proofs.SeedLemmas.{fitted-trimmed, raster_row-trimmed}
use Rattle.press_raster.proofs.StripLemmas.{row_turned}

module _ (environment : PageEnv) (settings : RasterSettings) (brush : Brush) where
  -- where a row lies at this cursor
  abbrev pub place_at : CursorState → RowPlace
  place_at cursor = record { environment = environment; y = cursor.y }

  -- items behind others
  pub with_items-append : (xs ys : List Item) (d : Drawn) →
      with_items environment settings brush (xs ++ ys) d ≡ with_items environment settings brush ys (with_items environment settings brush xs d)
  with_items-append xs ys d = fold-append (with_item environment settings brush) d xs ys

  -- where an item changes nothing, neither does the same one again
  pub with_items-settled : (n : ℕ) (item : Item) (d : Drawn) → with_item environment settings brush d item ≡ d →
      with_items environment settings brush (replicate n item) d ≡ d
  with_items-settled zero item d same = refl
  with_items-settled (suc n) item d same = grind (arith, same, with_items-settled n item d same)

  -- what an item that has no effect leaves: the seed row is white, where an item says so
  abbrev pub after_idle : Bool → Drawn → Drawn
  after_idle white d = record d { graphics = if white then whitened d.graphics else d.graphics }

  still : (a b : Bool) → a ≡ false → (a && b) ≡ false
  still a b none = ap (λ t. t && b) none

  -- data of which no row has effect
  pub with_items-idle : (xs : List Item) (d : Drawn) → (takes_row settings d.graphics && list_any is_some xs) ≡ false →
      with_items environment settings brush xs d ≡ after_idle (list_any is_none xs) d
  with_items-idle [] d idle = refl
  with_items-idle (None ∷ others) d idle = grind (arith, with_items-idle others (record d { graphics = whitened d.graphics }) (ap (λ t. t && list_any is_some others) (grind arith) ∙ idle))
  with_items-idle (Some row ∷ others) d idle =
      let untaken : takes_row settings d.graphics ≡ false = grind arith in
      grind (arith, rules, untaken, with_items-idle others d (still (takes_row settings d.graphics) (list_any is_some others) untaken))

  -- seed rows count as they are cut or filled up to the width of a row, where a row has effect
  pub with_items-fitted : (xs : List Item) (on : RasterGraphics) (seed : List ℕ) (page : Page) (cursor : CursorState) (width : ℕ) →
      width ≡ bytes_per_line (row_dots (place_at cursor) settings on.left) → is_below_height settings.source_height on.rows ≡ true → list_any is_some xs ≡ true →
      fitted width seed ≡ fitted width on.seed →
      with_items environment settings brush xs (drawn (Some (record on { seed = seed })) page cursor)
      ≡ with_items environment settings brush xs (drawn (Some on) page cursor)
  with_items-fitted [] on seed page cursor width wide below some same = absurd (true≢false (sym some))
  with_items-fitted (None ∷ others) on seed page cursor width wide below some same = refl
  with_items-fitted (Some row ∷ others) on seed page cursor width wide below some same =
      grind (arith, rules, below, wide, raster_row-fitted row.0 row.1 seed width, same, raster_row-fitted row.0 row.1 on.seed width)

-- how many rows a run is, before others
pub count_rows-run : (n : ℕ) (row : Method × List ℕ) (others : List Item) → count_rows (replicate n (Some row) ++ others) ≡ n + count_rows others
count_rows-run zero row others = grind arith
count_rows-run (suc n) row others = grind (arith, count_rows-run n row others)

-- there is a row where rows are counted
pub count_rows-some : (items : List Item) → nat_lt 0 (count_rows items) ≡ list_any is_some items
count_rows-some [] = refl
count_rows-some (None ∷ others) = count_rows-some others
count_rows-some (Some row ∷ others) = grind (arith, nat_tests)

-- no row of a run makes the seed row white
pub none_white-run : (n : ℕ) (row : Method × List ℕ) (others : List Item) → list_any is_none (replicate n (Some row) ++ others) ≡ list_any is_none others
none_white-run zero row others = refl
none_white-run (suc n) row others = none_white-run n row others

-- rows that are drawn from the seed row as it is cut or filled up, where one has effect
pub drawn-fitted : (setup : RowSetup) (environment : PageEnv) (settings : RasterSettings) (brush : Brush) (width : ℕ) (position : RasterPosition) (seed : List ℕ)
    (drawing : Drawing) (page : BandedPage) (whole : Page) (cursor : CursorState) (xs : List Item) →
    setup ≡ setup_of width environment settings position.left →
    drawing.position ≡ position → drawing.seed.items ≡ fitted (bytes_per_line setup.dots) seed → page_of_frame environment.page_setup.orientation page.page ≡ whole →
    takes_row settings (graphics (Some position) seed) ≡ true → list_any is_some xs ≡ true →
    with_items setup.environment setup.settings brush xs (drawn_by setup drawing page cursor)
    ≡ with_items environment settings brush xs (drawn (graphics (Some position) seed) whole cursor)
drawn-fitted setup environment settings brush width position seed drawing page whole cursor xs same place cut on_page taken some =
    (λ i.
    with_items (same i).environment (same i).settings brush xs
    (drawn (graphics (Some (place i)) (cut i))
    ((ap (λ (s : RowSetup). page_of_frame s.environment.page_setup.orientation page.page) same ∙ on_page) i) cursor))
    ∙ with_items-fitted environment settings brush xs (record { left = position.left; rows = position.rows; seed = trimmed seed }) (trimmed (fitted (bytes_per_line setup.dots) seed)) whole cursor
    (bytes_per_line setup.dots) (ap (λ (s : RowSetup). bytes_per_line s.dots) same) taken some
    (fitted-trimmed (bytes_per_line setup.dots) (fitted (bytes_per_line setup.dots) seed) ∙ fitted_twice (bytes_per_line setup.dots) seed
    ∙ sym (fitted-trimmed (bytes_per_line setup.dots) seed))

-- a row that is painted on the frame, has become the seed row and has moved the cursor, is the next item
pub row_drawn : (setup : RowSetup) (brush : Brush) (drawing : Drawing) (frame after : BandedPage) (cursor moved : CursorState)
    (row : Method × List ℕ) (lines : FrameLines) (source bits seed : List ℕ) (position : RasterPosition)
    →
    IsSetUp setup (layout frame) drawing → is_below_height setup.settings.source_height drawing.position.rows ≡ true →
    bits ≡ raster_row row.0 row.1 drawing.seed.items (bytes_per_line setup.dots) → source ≡ bits → seed ≡ bits →
    lines ≡ lines_at setup cursor.y → position ≡ one_row_on drawing.position →
    moved ≡ moved_y (pos (row_height setup.settings.resolution)) true (logical_page_of setup.environment) cursor →
    after.page ≡ painted frame.page (row_on_frame setup.across.column lines setup.across.size (record { bits = source; dots = setup.dots }) brush frame.page) →
    drawn (graphics (Some position) seed) (page_of_frame setup.environment.page_setup.orientation after.page) moved
    ≡ with_item setup.environment setup.settings brush (drawn_by setup drawing frame cursor) (Some row)
row_drawn setup brush drawing frame after cursor moved row lines source bits seed position is below bits_are source_is seed_is lines_are position_is moved_is painting =
    grind (arith, raster_row-trimmed, row_turned)
