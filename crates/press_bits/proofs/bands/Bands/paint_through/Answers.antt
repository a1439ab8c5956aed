use Rattle.std.proofs.Common.{◌≡◌, ◌+◌, ◌-◌, ◌*◌, ◌/◌, ◌%◌, ◌<◌, true, length, ap, ◌∙◌, arith, pos, w64}
use Rattle.std.proofs.lemmas.List.{get_or_default}
use Rattle.std.proofs.lemmas.Int.{to_z-of_z}
use Rattle.press_bits.specs.Mark.{painted, row, row_mark, row_dot, repeated}
use Rattle.press_bits.specs.Lines.{bytes_per_line}
use Rattle.press_bits.proofs.MarkLemmas.{unmarked, row_off_line, row_off_columns}
use Rattle.press_bits.specs.Bands.{BandedPage, is_there, band_at}
use Rattle.press_bits.proofs.BandLemmas.{width-page_of_bands, height-page_of_bands, no_dot_outside, painted_band, painted_has}
use Rattle.press_bits.proofs.BandLemmas.{stays_white, put_flags, band_ready, at_line, there_long, there_within, in_bytes}
use Rattle.press_bits.proofs.bands.Bands.paint_through.Goals as goal

pub returns-in_default-clause-painted : goal.returns-in_default-clause-painted
returns-in_default-clause-painted c = grind (arith, unmarked, no_dot_outside, row_off_line, height-page_of_bands, to_z-of_z, w64)

pub returns-then-run-eq0-clause-painted : goal.returns-then-run-eq0-clause-painted
returns-then-run-eq0-clause-painted c = grind (arith, unmarked, no_dot_outside, row_off_columns, pos, to_z-of_z, w64, width-page_of_bands)

pub returns-then-not-has_band-clause-painted : goal.returns-then-not-has_band-clause-painted
returns-then-not-has_band-clause-painted c = grind (arith, height-page_of_bands, at_line, band_ready, stays_white, to_z-of_z, w64)

pub paint-requires-clause-within : goal.paint-requires-clause-within
paint-requires-clause-within c = grind (arith, there_within, get_or_default, there_long, in_bytes)

pub invariant_of-self : goal.invariant_of-self
invariant_of-self c =
    let items = c.self.inside.bands.items in
    let some : is_there (band_at items (c.in-Some.line / 64)) ≡ true = grind arith in
    let there : c.in-Some.line / 64 < length items = there_within items (c.in-Some.line / 64) some in
    let band : c.index_mut.result.now ≡ band_at items (c.in-Some.line / 64) = grind (arith, get_or_default) in
    painted_has c.self.inside.width c.self.inside.height items c.paint.new.self c.args.mode
    (λ p.
    row_dot c.args.source.bits.now
    (c.run_within-run.result.skip
    + (p - (8 * (c.in-Some.line % 64 * bytes_per_line c.self.inside.width) + c.run_within-run.result.first))))
    (λ p. repeated (row c.args.pattern) (p - 8 * (c.in-Some.line % 64 * bytes_per_line c.self.inside.width)))
    c.run_within-run.result.first c.run_within-run.result.count c.in-Some.line c.self.invariant there (grind arith) some (omega (arith, c.run_within-run.ensures.count))
    (λ p. grind (arith, c.paint.ensures.dots p))

pub returns-clause-painted : goal.returns-clause-painted
returns-clause-painted c =
    let items = c.self.inside.bands.items in
    let some : is_there (band_at items (c.in-Some.line / 64)) ≡ true = grind arith in
    let there : c.in-Some.line / 64 < length items = there_within items (c.in-Some.line / 64) some in
    let band : c.index_mut.result.now ≡ band_at items (c.in-Some.line / 64) = grind (arith, get_or_default) in
    painted_band c.self.inside.width c.self.inside.height items c.paint.new.self c.args.x c.args.y (row c.args.source) (row c.args.pattern) c.args.mode
    c.run_within-run.result.first c.run_within-run.result.skip c.run_within-run.result.count c.in-Some.line
    (grind (arith, to_z-of_z, w64)) c.run_within-run.ensures.first (grind (arith, to_z-of_z, w64)) c.run_within-run.ensures.count (omega arith) there
    (λ p. grind (arith, c.paint.ensures.dots p))
    ∙ ap (λ (s : BandedPage). painted s.page (row_mark c.args.x c.args.y (row c.args.source) (row c.args.pattern) c.args.mode)) c.self.view_is

pub returns-clause-ready : goal.returns-clause-ready
returns-clause-ready c = grind (arith, there_within, get_or_default, put_flags)
