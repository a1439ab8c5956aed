use Rattle.std.proofs.Common.{subst}
use Rattle.press_pattern.specs.Tiling.{IsWhiteTile}
use Rattle.press_pattern.proofs.TileLemmas.{white_tile}
use Rattle.press_pattern.proofs.tile.Tile.is_white.Goals as goal

pub returns : goal.returns
returns c = λ yes.
    subst IsWhiteTile c.self.view_is
    (white_tile (record { width = c.self.inside.width; height = c.self.inside.height; rows = c.self.inside.rows.now }) c.self.invariant.some_width (c.is_white.ensures yes))
