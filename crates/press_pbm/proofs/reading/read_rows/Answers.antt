use Rattle.std.proofs.Common.{◌≡◌, ◌<◌, [], ◌++◌, length, rules, arith, ◌∙◌, w64, length-append, inr}
use Rattle.std.proofs.KnownBytes.{Consumes-nil, Consumes-trans}
use Rattle.std.proofs.lemmas.Int.{to_z-of_z}
use Rattle.press_bits.specs.Lines.{bytes_per_line}
use Rattle.press_pbm.proofs.ReadingLemmas.{or_both, passed_on}
use Rattle.press_pbm.proofs.RowsLemmas.{no_rows, stopped_in_rows, row_painted}
use Rattle.press_pbm.proofs.reading.read_rows.Goals as goal

pub loop-y-init : goal.loop-y-init
loop-y-init g c = ([], omega arith, Consumes-nil _, c.requires ∙ no_rows _ _, search rules, λ was. was, inr (omega arith))

pub returns-in_err-fill-clause-err : goal.returns-in_err-fill-clause-err
returns-in_err-fill-clause-err g c =
    let (rows, long, reads, shown, one, stays, few) = c.loop-y.invariant in
    let inside : c.loop-y.y < c.args.page.now.height = omega arith in
    passed_on _ _ _ c.from_residual.ensures.1
    (stopped_in_rows _ _ _ _ rows (bytes_per_line c.args.page.now.width) c.loop-y.y c.args.page.now.height _ reads long inside
    (c.fill.auto.buffer ∙ one) c.in_err-fill.ensures.err)

pub loop-y-preserved : goal.loop-y-preserved
loop-y-preserved g c =
    let (rows, long, reads, shown, one, stays, few) = c.loop-y.invariant in
    let kept : length c.fill.new.buffer ≡ bytes_per_line c.args.page.now.width = c.fill.auto.buffer ∙ one in
    let line = to_z-of_z w64 c.from.result (record { sfits = c.from.type_inv }) ∙ c.from.ensures in (
      rows ++ c.fill.new.buffer,
      omega (arith, length-append rows c.fill.new.buffer),
      Consumes-trans _ _ _ _ _ reads c.in_ok-fill.ensures.ok,
      row_painted _ _ c.loop-y.y _ _ _ rows c.fill.new.buffer _ _ c.in-Ok.ensures.ok c.black.ensures shown line c.width-width.ensures.width long kept,
      kept,
      λ was. c.fill.ensures.stays (stays was),
      or_both c.fill.ensures.stays few c.fill.ensures.few (λ before more. omega (arith, one)),
    )
