use Rattle.std.proofs.Common.{rules, ◌≤◌, ◌<◌, ◌∙◌, ◌++◌, ap}
use Rattle.hex.specs.Hex.{encode_upper}
use Rattle.serde_json.specs.Data.{string}
use Rattle.serde_json.specs.Written.{compact_text}
use Rattle.press_pbm.proofs.LineLemmas.{IsPageLine-line_bytes}
use Rattle.press_trace.specs.Pages.{row_in, row_data}
use Rattle.press_trace.proofs.ArrayLemmas.{rows_more}
use Rattle.press_trace.proofs.TextLemmas.{both}
use Rattle.press_trace.proofs.rows.append_read.Goals as goal

pub loop-y-preserved : goal.loop-y-preserved
loop-y-preserved c =
    let region = c.args.region in
    let behind : region.top ≤ c.loop-y.y = search rules in
    let below : c.loop-y.y < region.bottom = search rules in
    rows_more (row_data c.args.page.now region) region.top c.loop-y.y region.bottom c.loop-y.text.items _ _ behind below
    (both c.loop-y.text.items _ _ _ _ c.in_ok-append_comma.ensures
    (c.in_ok-append_row.ensures.value
    ∙ ap (λ line. c.append_comma.new.text.items ++ compact_text (string (encode_upper (row_in region line))))
    (IsPageLine-line_bytes c.args.page.now c.loop-y.y c.line.result.now c.width-width.ensures.inside c.append_row.ensures.bytes c.line.ensures))) c.loop-y.invariant
