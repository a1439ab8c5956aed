use Rattle.std.proofs.Common.{◌≡◌, IfSome, subst}
use Rattle.press_raster.specs.Graphics.{RasterGraphics, trimmed}
use Rattle.press_raster.proofs.SeedLemmas.{graphics-trimmed}
use Rattle.press_raster.proofs.raster.Raster.position.Goals as goal

pub returns-clause-seed : goal.returns-clause-seed
returns-clause-seed c =
    subst (λ g. IfSome g (λ (on : RasterGraphics). trimmed on.seed ≡ on.seed)) c.self.view_is (graphics-trimmed c.self.inside.position c.self.inside.seed.items)
