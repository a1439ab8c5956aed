use Rattle.std.proofs.Common.{subst, arith}
use Rattle.press_bits.specs.Page.{HasNoDotOutside}
use Rattle.press_bits.specs.Bands.{BandedPage}
use Rattle.press_bits.proofs.BandLemmas.{width-page_of_bands, height-page_of_bands, no_dot_outside}
use Rattle.press_bits.proofs.bands.Bands.get.Goals as goal
use Rattle.press_bits.proofs.bands.Bands.get.Goals.{then-x-self-via-then-x-self, then-x-self-via-else-x-self+then-y-self}

pub returns-then-x-self-clause-dot : goal.returns-then-x-self-clause-dot
returns-then-x-self-clause-dot c =
    let none : HasNoDotOutside c.args.self.now.page = subst (λ (b : BandedPage). HasNoDotOutside b.page) c.self.view_is (no_dot_outside _ _ _) in
    grind (arith, width-page_of_bands, height-page_of_bands, none.inside c.args.x c.args.y, c.then-x-self.branch)

pub line-requires : goal.line-requires
line-requires c = grind (arith, height-page_of_bands)

pub returns-clause-dot : goal.returns-clause-dot
returns-clause-dot c = grind (arith, width-page_of_bands)

pub returns-clause-below : goal.returns-clause-below
returns-clause-below c past = grind (arith, height-page_of_bands)
