use Rattle.std.proofs.Common.{◌≡◌, ◌*◌, ◌-◌, ◌≤◌, min, false, refl, sym, ap, ◌∙◌, subst, arith, rules}
use Rattle.std.proofs.Math.Nat.{mul-le-mul_right}
use Rattle.std.proofs.lemmas.List.{take-replicate}
use Rattle.press_bits.specs.Lines.{ArePageLines}
use Rattle.press_bits.specs.Bands.{BandedPage, band_at, is_there, page_of_bands}
use Rattle.press_bits.proofs.BandLemmas.{height-page_of_bands, there_long, band_there, band_missing}
use Rattle.press_bits.proofs.bands.Bands.band.Goals as goal

pub overflow_mul-index : goal.overflow_mul-index
overflow_mul-index c = grind (arith, height-page_of_bands)

pub overflow_sub-self-inside : goal.overflow_sub-self-inside
overflow_sub-self-inside c = grind (arith, height-page_of_bands)

pub prefix-requires : goal.prefix-requires
prefix-requires c = grind (arith, mul-le-mul_right {m = c.min-lines.result} {n = 64} c.line_bytes.result (omega arith))

pub returns-then-not-has_band : goal.returns-then-not-has_band
returns-then-not-has_band c =
    let high : c.self.inside.height ≡ c.args.self.now.page.height = sym (height-page_of_bands _ _ _) ∙ ap (λ (s : BandedPage). s.page.height) c.self.view_is in
    let gone : is_there (band_at c.self.inside.bands.items c.args.index) ≡ false = sym c.has_band.ensures ∙ search rules in
    let lines : c.min-lines.result ≡ min 64 (c.self.inside.height - 64 * c.args.index) = search rules in
    let most : c.min-lines.result ≤ 64 = omega (arith, lines) in
    subst (λ (s : BandedPage). ArePageLines s.page (64 * c.args.index) (min 64 (c.args.self.now.page.height - 64 * c.args.index)) c.prefix.result.now) c.self.view_is
    (subst (λ n.
    ArePageLines (page_of_bands c.self.inside.width c.self.inside.height c.self.inside.bands.items) (64 * c.args.index) n
    c.prefix.result.now)
    (lines ∙ ap (λ h. min 64 (h - 64 * c.args.index)) high)
    (band_missing c.self.inside.width c.self.inside.height c.args.index c.line_bytes.result c.min-lines.result c.self.inside.bands.items _
    c.prefix.result.now c.line_bytes.ensures refl gone c.self.invariant lines
    (c.prefix.ensures
    ∙ take-replicate (c.min-lines.result * c.line_bytes.result) 131072 0
    (omega (arith, mul-le-mul_right c.line_bytes.result most, c.line_bytes.ensures, c.self.invariant.most_width)))))

pub returns : goal.returns
returns c =
    let lines : c.min-lines.result ≡ min 64 (c.self.inside.height - 64 * c.args.index) = search rules in
    subst (λ (s : BandedPage). ArePageLines s.page (64 * c.args.index) (min 64 (c.args.self.now.page.height - 64 * c.args.index)) c.prefix-2.result.now) c.self.view_is
    (subst (λ n.
    ArePageLines (page_of_bands c.self.inside.width c.self.inside.height c.self.inside.bands.items) (64 * c.args.index) n
    c.prefix-2.result.now)
    (grind (arith, height-page_of_bands))
    (band_there c.self.inside.width c.self.inside.height c.args.index c.line_bytes.result c.min-lines.result c.self.inside.bands.items
    c.bytes_of.result.now c.prefix-2.result.now c.line_bytes.ensures c.bytes_of.ensures (grind (arith, there_long)) c.self.invariant lines
    c.prefix-2.ensures))
