use Rattle.std.proofs.Common.{◌*◌, ◌<◌, ◌++◌, subst, arith}
use Rattle.std.proofs.lemmas.List.{append_assoc}
use Rattle.sha2.specs.Hashers.{Holds256}
use Rattle.press_pbm.specs.Spelling.{line_bytes}
use Rattle.press_pbm.proofs.LineLemmas.{ArePageLines-line_bytes, lines_grow}
use Rattle.press_files.proofs.digest.absorb_lines.Goals as goal

pub loop-index-preserved : goal.loop-index-preserved
loop-index-preserved c =
    let (done, split, took) = c.loop-index.invariant in
    let page = c.args.page.now in
    let below : 64 * c.loop-index.index < page.height = omega arith in
    let lines = ArePageLines-line_bytes page _ (64 * c.loop-index.index) c.band.result.now c.height.ensures.inside c.absorb.ensures.bytes c.band.ensures in (
      done ++ c.band.result.now,
      lines_grow (line_bytes page) _ done c.band.result.now c.loop-index.index page.height below lines split,
      λ before held. subst (Holds256 _) (append_assoc before done c.band.result.now) (c.absorb.ensures.absorbed _ (took before held)),
    )
