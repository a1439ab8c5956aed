use Rattle.std.proofs.Common.{◌∙◌, if◌then◌else◌, ap, sym}
use Rattle.press_raster.specs.Graphics.{whitened}
use Rattle.press_raster.proofs.SeedLemmas.{whitened-graphics}
use Rattle.press_raster.proofs.raster.Raster.pass.Goals as goal

pub returns-then-has_white_seed : goal.returns-then-has_white_seed
returns-then-has_white_seed c =
    whitened-graphics c.self.inside.position c.self.inside.seed.items c.fill.new.self.items _ (c.fill.ensures.items (λ y same. same)) ∙ ap whitened c.self.view_is
    ∙ ap (λ b. if b then whitened c.args.self.now else c.args.self.now) (sym c.if-has_white_seed.true ∙ c.has_white_seed.ensures)
