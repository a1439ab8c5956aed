use Rattle.std.proofs.Common.{rules, ◌≤◌, ◌<◌, ◌∙◌, ◌++◌, ap}
use Rattle.hex.specs.Hex.{encode_upper}
use Rattle.serde_json.specs.Data.{string}
use Rattle.serde_json.specs.Written.{compact_text}
use Rattle.press_trace.specs.Pages.{row_data}
use Rattle.press_trace.proofs.ArrayLemmas.{rows_more}
use Rattle.press_trace.proofs.TextLemmas.{both}
use Rattle.press_trace.proofs.rows.append_gathered.Goals as goal

pub loop-line-preserved : goal.loop-line-preserved
loop-line-preserved c =
    let region = c.args.region in
    let behind : region.top ≤ c.loop-line.line = search rules in
    let below : c.loop-line.line < region.bottom = search rules in
    rows_more (row_data c.args.page.now region) region.top c.loop-line.line region.bottom c.loop-line.text.items _ _ behind below
    (both c.loop-line.text.items _ _ _ _ c.in_ok-append_comma.ensures
    (c.in_ok-append_hexadecimal.ensures
    ∙ ap (λ row. c.append_comma.new.text.items ++ compact_text (string (encode_upper row))) (c.deref.ensures.value ∙ c.in_ok-gather_row.ensures))) c.loop-line.invariant
