use Rattle.std.proofs.Common.{◌≡◌, ◌++◌, ◌-◌, map, nat_lt}
use Rattle.std.specs.List.{range_with_len}
use Rattle.serde_json.specs.Data.{array}
use Rattle.serde_json.specs.View.{items_of}
use Rattle.serde_json.specs.Written.{compact_text, items_text}
use Rattle.press_trace.specs.Pages.{row_data, rows_of}
use Rattle.press_trace.proofs.rows.append_read.Given as goal

-- the rows below, and the bracket, are missing
abbrev pub invariant-loop-y : goal.invariant-loop-y
invariant-loop-y l =
    l.text.items ++ items_text (nat_lt l.region.top l.y) (items_of (map (row_data l.page l.region) (range_with_len l.y (l.region.bottom - l.y))))
    ≡ l.fn.text.items ++ compact_text (array (items_of (rows_of l.page l.region)))
