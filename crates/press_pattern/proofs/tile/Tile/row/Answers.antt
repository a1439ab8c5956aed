use Rattle.std.proofs.Common.{ap, ◌∙◌}
use Rattle.press_bits.specs.Lines.{bytes_per_line}
use Rattle.press_pattern.specs.Tiling.{tile_row}
use Rattle.press_pattern.proofs.TileLemmas.{tile_row-slice}
use Rattle.press_pattern.proofs.tile.Tile.row.Goals as goal

pub returns-clause-row : goal.returns-clause-row
returns-clause-row c =
    tile_row-slice (record { width = c.self.inside.width; height = c.self.inside.height; rows = c.self.inside.rows.now }) c.args.y c.line_of.result c.line_bytes-bytes.result
    c.line_of.ensures (c.line_bytes-bytes.ensures ∙ ap bytes_per_line c.from.ensures)
    ∙ ap (λ t. tile_row t c.args.y) c.self.view_is
