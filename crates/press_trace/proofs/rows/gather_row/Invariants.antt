use Rattle.std.proofs.Common.{◌≡◌, ◌+◌, ◌-◌, ◌*◌, map}
use Rattle.std.specs.List.{range_with_len}
use Rattle.press_bits.specs.Page.{black_at}
use Rattle.press_pbm.specs.Spelling.{byte_of_dots}
use Rattle.press_trace.proofs.rows.gather_row.Given as goal

abbrev pub invariant-loop-index : goal.invariant-loop-index
invariant-loop-index l =
    l.row.items ≡ map (λ i. byte_of_dots (λ j. black_at l.page (8 * i + j) l.y)) (range_with_len l.fn.region.left (l.index - l.fn.region.left))
