use Rattle.std.proofs.Common.{◌*◌, sym, ap, subst, arith, pos, w64}
use Rattle.std.proofs.lemmas.Int.{to_z-of_z}
use Rattle.press_bits.specs.Bands.{BandedPage, is_ready}
use Rattle.press_bits.proofs.BandLemmas.{height-page_of_bands, made_page, made_bands, ready_of, after_ok, in_run}
use Rattle.press_bits.proofs.bands.Bands.ready.Goals as goal

pub returns-then-run-eq0-clause-ok : goal.returns-then-run-eq0-clause-ok
returns-then-run-eq0-clause-ok c = grind (arith, height-page_of_bands, pos, to_z-of_z, w64, in_run)

pub invariant_of-self : goal.invariant_of-self
invariant_of-self c =
    made_bands c.self.inside.width c.self.inside.height c.self.inside.bands.items c.make_bands.new.bands.items _ _ _ c.make_bands.result
    (ap (λ n. 64 * n) c.line_bytes-size.ensures) (omega (arith, c.run_within-run.ensures.count, c.make_bands.ensures.most, c.self.invariant.most_bands))
    c.self.invariant c.make_bands.ensures.makes

pub returns-clause-dots : goal.returns-clause-dots
returns-clause-dots c =
    grind (arith, made_page c.self.inside.width c.self.inside.height c.self.inside.bands.items c.make_bands.new.bands.items _ _ _ c.make_bands.result c.make_bands.ensures.makes, c.self.view_is)

pub returns-clause-stays : goal.returns-clause-stays
returns-clause-stays c = λ line ready.
    grind (arith, ready_of, c.make_bands.ensures.makes, subst (λ (s : BandedPage). is_ready s line) (sym c.self.view_is) ready)

pub returns-clause-ok : goal.returns-clause-ok
returns-clause-ok c = grind (arith, after_ok, height-page_of_bands, pos, to_z-of_z, w64, in_run, ready_of)
