use Rattle.std.proofs.Common.{◌≡◌, ◌+◌, ◌*◌}
use Rattle.std.specs.List.{sum_by, range_with_len}
use Rattle.press_bits.specs.Page.{black_in_line}
use Rattle.press_bits.proofs.bands.Bands.black_in_band.Given as goal

abbrev pub invariant-loop-y : goal.invariant-loop-y
invariant-loop-y l = sum_by (black_in_line l.self.page) (range_with_len 0 l.y) ≡ sum_by (black_in_line l.self.page) (range_with_len 0 (64 * l.index)) + l.black
