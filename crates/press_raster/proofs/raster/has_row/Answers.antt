use Rattle.std.proofs.Common.{◌≡◌, ℕ, min, nat_lt, arith}
use Rattle.std.proofs.lemmas.Bool.Decides.{nat_tests}
use Rattle.press_bits.specs.Page.{longest_side}
use Rattle.press_rows.specs.Blocks.{count_rows}
use Rattle.press_raster.proofs.DrawingLemmas.{count_rows-some}
use Rattle.press_raster.proofs.raster.has_row.Goals as goal

some : (n m : ℕ) → n ≡ min longest_side m → nat_lt 0 n ≡ nat_lt 0 m
some n m is = grind (arith, nat_tests)

pub returns-in-Adaptive : goal.returns-in-Adaptive
returns-in-Adaptive c = grind (arith, some c.count_rows.result (count_rows c.new.result) c.count_rows.ensures.count, count_rows-some c.new.result, c.new.ensures, c.in-Adaptive.is)
