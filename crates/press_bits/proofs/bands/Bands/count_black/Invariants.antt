use Rattle.std.proofs.Common.{◌≡◌, ◌*◌, min}
use Rattle.std.specs.List.{sum_by, range_with_len}
use Rattle.press_bits.specs.Page.{black_in_line}
use Rattle.press_bits.proofs.bands.Bands.count_black.Given as goal

abbrev pub invariant-loop-index : goal.invariant-loop-index
invariant-loop-index l = l.black ≡ sum_by (black_in_line l.self.page) (range_with_len 0 (min l.self.page.height (64 * l.index)))
