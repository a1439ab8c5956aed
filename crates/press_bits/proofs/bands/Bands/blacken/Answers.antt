use Rattle.std.proofs.lemmas.Bool.Decides.{nat_tests}
use Rattle.std.proofs.Common.{◌≡◌, ℕ, ◌+◌, ◌-◌, ◌*◌, ◌/◌, ◌%◌, ◌<◌, List, true, inr, length, refl, ap, ◌∙◌, arith, pos}
use Rattle.std.proofs.lemmas.List.{get_or_default}
use Rattle.press_bits.specs.Mark.{painted, row_mark}
use Rattle.press_bits.specs.DotRule.{both_transparent}
use Rattle.press_bits.specs.Lines.{bytes_per_line}
use Rattle.press_bits.specs.Bands.{BandedPage, is_there, band_at}
use Rattle.press_bits.proofs.BandLemmas.{width-page_of_bands, height-page_of_bands, painted_band, painted_has, put_flags, band_ready, at_line, there_long, there_within, in_bytes}
use Rattle.press_bits.proofs.bands.Bands.blacken.Goals as goal

pub blacken-requires-clause-within : goal.blacken-requires-clause-within
blacken-requires-clause-within c =
    in_bytes c.self.inside.width c.line_bytes.result c.args.x c.args.dots c.args.dots 0 (c.args.y % 64) (length c.index_mut.result.now) c.line_bytes.ensures
    (grind (arith, height-page_of_bands, at_line, pos, band_ready, there_within, get_or_default, there_long)) (omega arith) (grind (arith, width-page_of_bands)) c.requires.some

pub blacken-requires-clause-long : goal.blacken-requires-clause-long
blacken-requires-clause-long c = grind (arith, height-page_of_bands, at_line, pos, band_ready, there_within, get_or_default, there_long)

pub blacken-requires-clause-small : goal.blacken-requires-clause-small
blacken-requires-clause-small c = grind (arith, height-page_of_bands, at_line, pos, band_ready, there_within, get_or_default, there_long)

pub invariant_of-self : goal.invariant_of-self
invariant_of-self c =
    let items : List (List ℕ) = c.self.inside.bands.items in
    let some : is_there (band_at items (c.args.y / 64)) ≡ true = grind (arith, height-page_of_bands, at_line, pos, band_ready) in
    let there : c.args.y / 64 < length items = there_within items (c.args.y / 64) some in
    let band : c.index_mut.result.now ≡ band_at items (c.args.y / 64) = grind (arith, get_or_default) in
    painted_has c.self.inside.width c.self.inside.height items c.blacken.new.self both_transparent (λ _. true) (λ _. true) c.args.x c.args.dots c.args.y
    c.self.invariant there (grind arith) some (grind (arith, width-page_of_bands)) (λ p. grind (arith, c.blacken.ensures.dots p))

pub returns-clause-painted : goal.returns-clause-painted
returns-clause-painted c = λ source pattern mode solid wide.
    let items : List (List ℕ) = c.self.inside.bands.items in
    let some : is_there (band_at items (c.args.y / 64)) ≡ true = grind (arith, height-page_of_bands, at_line, pos, band_ready) in
    let there : c.args.y / 64 < length items = there_within items (c.args.y / 64) some in
    let band : c.index_mut.result.now ≡ band_at items (c.args.y / 64) = grind (arith, get_or_default) in
    let start : ℕ = 8 * (c.args.y % 64 * bytes_per_line c.self.inside.width) in
    painted_band c.self.inside.width c.self.inside.height items c.blacken.new.self (pos c.args.x) (pos c.args.y) source pattern mode
    c.args.x 0 c.args.dots c.args.y (grind arith) (inr refl) refl (grind (arith, width-page_of_bands)) c.requires.some there
    (λ p. grind (arith, nat_tests, c.blacken.ensures.dots p, solid.0 (0 + (p - (start + c.args.x))), solid.1 (p - start)))
    ∙ ap (λ (s : BandedPage). painted s.page (row_mark (pos c.args.x) (pos c.args.y) source pattern mode)) c.self.view_is

pub returns-clause-ready : goal.returns-clause-ready
returns-clause-ready c =
    let items : List (List ℕ) = c.self.inside.bands.items in
    let some : is_there (band_at items (c.args.y / 64)) ≡ true = grind (arith, height-page_of_bands, at_line, pos, band_ready) in
    let there : c.args.y / 64 < length items = there_within items (c.args.y / 64) some in
    let band : c.index_mut.result.now ≡ band_at items (c.args.y / 64) = grind (arith, get_or_default) in
    grind (arith, put_flags (c.args.y / 64) items c.blacken.new.self there (grind arith), c.self.view_is)
