use Rattle.std.proofs.Common.{◌*◌, ◌<◌, ◌++◌, sym, subst, arith}
use Rattle.std.proofs.KnownBytes.{Appends-trans}
use Rattle.std.proofs.lemmas.Result.{MatchResult-from_err}
use Rattle.press_pbm.specs.Spelling.{line_bytes}
use Rattle.press_devices.specs.Writing.{AppendsPrefix}
use Rattle.press_devices.proofs.WritesLemmas.{prefix_then, prefix_more}
use Rattle.press_pbm.proofs.LineLemmas.{ArePageLines-line_bytes, lines_grow}
use Rattle.press_pbm.proofs.writing.write_lines.Goals as goal

pub returns-in_err-write_bytes-clause-written : goal.returns-in_err-write_bytes-clause-written
returns-in_err-write_bytes-clause-written g c =
    let ((done, split, wrote), stays) = c.loop-index.invariant in
    let page = c.args.bitmap.now in
    let below : 64 * c.loop-index.index < page.height = omega arith in
    let lines = ArePageLines-line_bytes page _ (64 * c.loop-index.index) c.band.result.now c.height.ensures.inside c.write_bytes.ensures.bytes c.band.ensures in
    let whole = lines_grow (line_bytes page) _ done c.band.result.now c.loop-index.index page.height below lines split in
    MatchResult-from_err _ _ _ c.from_residual.ensures.0
    (λ _. subst (AppendsPrefix _ _) (sym whole) (prefix_more _ _ _ _ (prefix_then _ _ _ _ _ wrote c.in_err-write_bytes.ensures.written)))

pub loop-index-preserved : goal.loop-index-preserved
loop-index-preserved g c =
    let ((done, split, wrote), stays) = c.loop-index.invariant in
    let page = c.args.bitmap.now in
    let below : 64 * c.loop-index.index < page.height = omega arith in
    let lines = ArePageLines-line_bytes page _ (64 * c.loop-index.index) c.band.result.now c.height.ensures.inside c.write_bytes.ensures.bytes c.band.ensures in (
      (
        done ++ c.band.result.now,
        lines_grow (line_bytes page) _ done c.band.result.now c.loop-index.index page.height below lines split,
        Appends-trans _ _ _ _ _ wrote c.in_ok-write_bytes.ensures.written,
      ),
      λ was. c.write_bytes.ensures.stays (stays was),
    )
