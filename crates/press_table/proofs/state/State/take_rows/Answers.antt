use Rattle.std.proofs.Common.{◌≡◌, refl, ◌∙◌, Option, None, Some, is_some, unwrap_or, option_map, if◌then◌else◌, ap, rules}
use Rattle.press_bits.specs.Page.{Page}
use Rattle.press_bits.specs.declared.mode.Mode.{Mode}
use Rattle.press_pattern.specs.Brush.{brush_of, brush_mode, black_brush}
use Rattle.press_pattern.specs.Store.{UserPatterns, tile_of}
use Rattle.press_pattern.specs.Tiling.{Tiling}
use Rattle.press_pattern.specs.declared.brush.Brush.{Brush}
use Rattle.press_pattern.specs.declared.pattern.Pattern.{Pattern}
use Rattle.press_raster.specs.Rows.{drawn, drawn_rows}
use Rattle.press_table.specs.Drawing.{solid_black_pattern}
use Rattle.press_table.specs.Raster.{brush_now, with_drawn}
use Rattle.press_table.proofs.state.State.take_rows.Goals as goal

-- what a pattern of this tile is painted with
abbrev brush_with : Pattern → Mode → Tiling → Brush
brush_with pattern mode tile = record { tile = tile; mode = brush_mode pattern.kind mode }

-- a pattern that is gone is solid black
brush_found : (patterns : UserPatterns) (pattern : Pattern) (mode : Mode) (tile : Option Tiling) → tile ≡ tile_of patterns pattern.kind pattern.id →
    unwrap_or (option_map (brush_with pattern mode) tile) (black_brush mode)
    ≡ unwrap_or (brush_of patterns (if is_some tile then pattern else solid_black_pattern) mode) (black_brush mode)
brush_found patterns pattern mode None is = refl
brush_found patterns pattern mode (Some tile) is = ap (λ found. unwrap_or (option_map (brush_with pattern mode) found) (black_brush mode)) is

pub returns : goal.returns
returns c =
    let state = c.args.self.now in
    let left = c.take_page.ensures.left in
    let own : c.unwrap_or-brush.result ≡ unwrap_or (brush_of state.patterns state.drawing.pattern state.drawing.mode) (black_brush state.drawing.mode) = search rules in
    let brush : c.unwrap_or-brush.result ≡ brush_now state = own ∙ brush_found state.patterns state.drawing.pattern state.drawing.mode _ refl in
    ap (λ (page : Option Page). record c.take_page.new.self { graphics = c.transfer.new.self; page = page; cursor = c.transfer.new.cursor }) c.put.ensures
    ∙ ap (λ drawn. with_drawn drawn c.take_page.new.self) c.in_ok-transfer.ensures.rows
    ∙ (λ i. with_drawn (drawn_rows (left i).environment (left i).drawing.raster (brush i) c.args.bytes.now
    (drawn (left i).graphics (c.in_ok-page.ensures.page i) (left i).cursor)) (left i))
