use Rattle.std.proofs.Common.{rules, ◌≡◌, ◌+◌, ◌-◌, ◌*◌, ◌≤◌, ◌∙◌, ap, arith, map}
use Rattle.std.specs.List.{range_with_len}
use Rattle.press_bits.specs.Page.{black_at}
use Rattle.press_pbm.specs.Spelling.{byte_of_dots}
use Rattle.press_trace.proofs.PageLemmas.{row_more, row_of_dots}
use Rattle.press_trace.proofs.rows.gather_row.Goals as goal

pub loop-index-preserved : goal.loop-index-preserved
loop-index-preserved c =
    let behind : c.args.region.left ≤ c.loop-index.index = search rules in
    row_more c.args.page.now c.args.region.left c.loop-index.index c.args.y c.loop-index.row.items c.push.new.self.items c.byte_at.result behind c.loop-index.invariant (search rules)
    c.in_ok-push.ensures.items

pub returns : goal.returns
returns c =
    let region = c.args.region in
    let count : c.loop-index.index - region.left ≡ region.right - region.left = search rules in
    c.loop-index.invariant
    ∙ ap (λ n. map (λ i. byte_of_dots (λ j. black_at c.args.page.now (8 * i + j) c.args.y)) (range_with_len region.left n)) count
    ∙ row_of_dots c.args.page.now region c.args.y (omega (arith, c.requires.lies.some_bytes)) c.requires.lies.bytes
