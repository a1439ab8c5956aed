use Rattle.std.proofs.Common.{sym, ap, ◌∙◌, subst}
use Rattle.press_bits.specs.Page.{HasNoDotOutside}
use Rattle.press_bits.specs.Bands.{BandedPage}
use Rattle.press_bits.proofs.BandLemmas.{height-page_of_bands, no_dot_outside}
use Rattle.press_bits.proofs.bands.Bands.height.Goals as goal

pub returns-clause-height : goal.returns-clause-height
returns-clause-height c = sym (height-page_of_bands _ _ _) ∙ ap (λ (b : BandedPage). b.page.height) c.self.view_is

pub returns-clause-inside : goal.returns-clause-inside
returns-clause-inside c = subst (λ (b : BandedPage). HasNoDotOutside b.page) c.self.view_is (no_dot_outside _ _ _)
