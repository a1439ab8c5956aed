use Rattle.std.proofs.Common.{◌≡◌, ℕ, ◌*◌, ◌/◌, ◌<◌, length}
use Rattle.press_bits.specs.Mark.{row, row_dot}
use Rattle.press_raster.proofs.widening.widen_by.Given as goal

-- the dots so far
abbrev pub invariant-loop-byte : goal.invariant-loop-byte
invariant-loop-byte l = record {
  long : length l.out ≡ length l.fn.out;
  dots : (i : ℕ) → i < 8 * (l.size * l.byte) → row_dot l.out i ≡ row_dot (row l.source).bits (i / l.size);
}
