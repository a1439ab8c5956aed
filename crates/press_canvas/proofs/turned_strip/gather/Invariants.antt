use Rattle.std.proofs.Common.{◌≡◌, ℕ, ◌+◌, ◌*◌, ◌<◌, length}
use Rattle.press_canvas.specs.Block.{block_dot}
use Rattle.press_canvas.specs.Strip.{column_dot}
use Rattle.press_canvas.proofs.turned_strip.gather.Given as goal

-- the lines so far
abbrev pub invariant-loop-line : goal.invariant-loop-line
invariant-loop-line l = record {
  long : length l.words ≡ 64;
  dots : (i j : ℕ) → i < l.line → j < 64 → 64 * l.strip + j < l.frame.width
      → block_dot l.words i j ≡ column_dot l.frame (64 * l.strip + j) (64 * l.band + i);
}
