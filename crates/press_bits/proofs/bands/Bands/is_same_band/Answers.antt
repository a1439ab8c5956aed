use Rattle.std.proofs.Common.{rules, ◌≡◌, sym, ◌∙◌}
use Rattle.press_bits.proofs.RegionLemmas.{same_band}
use Rattle.press_bits.proofs.bands.Bands.is_same_band.Goals as goal

pub returns : goal.returns
returns c = λ is x n right below here.
    let same : c.bytes_of.result.now ≡ c.bytes_of-2.result.now = search rules in
    same_band c.self.inside.width c.self.inside.height c.after.inside.width c.after.inside.height c.self.inside.bands.items c.after.inside.bands.items
    c.args.self.now c.args.after.now c.self.view_is c.after.view_is c.requires.width c.requires.height c.args.band x n
    (sym c.bytes_of.ensures ∙ same ∙ c.bytes_of-2.ensures) right below here
