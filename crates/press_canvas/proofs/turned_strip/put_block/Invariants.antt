use Rattle.std.proofs.Common.{◌≡◌, ℕ, ◌/◌, ◌%◌, ◌<◌, ◌&&◌, length}
use Rattle.std.specs.Prelude.{nat_eq, nat_lt, if◌then◌else◌}
use Rattle.press_canvas.specs.Block.{block_dot}
use Rattle.press_canvas.specs.Strip.{strip_dot}
use Rattle.press_canvas.proofs.turned_strip.put_block.Given as goal

-- the lines so far are written
abbrev pub invariant-loop-line : goal.invariant-loop-line
invariant-loop-line l = record {
  long : length l.strip ≡ 135168;
  dots : (j x : ℕ) → j < 64 → x < 16896 → strip_dot l.strip j x
      ≡ (if nat_eq (x / 64) l.word && nat_lt j l.line then block_dot l.words j (x % 64) else strip_dot l.fn.strip j x);
}
