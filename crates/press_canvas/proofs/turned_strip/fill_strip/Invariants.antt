use Rattle.std.proofs.Common.{◌≡◌, ℕ, ◌+◌, ◌*◌, ◌<◌, length}
use Rattle.press_canvas.specs.Strip.{column_dot, strip_dot}
use Rattle.press_canvas.proofs.turned_strip.fill_strip.Given as goal

-- the words so far are written
abbrev pub invariant-loop-band : goal.invariant-loop-band
invariant-loop-band l = record {
  long : length l.strip ≡ 135168;
  block : length l.words ≡ 64;
  dots : (j x : ℕ) → j < 64 → x < 64 * l.band → x < 16896 → 64 * l.index + j < l.frame.width
      → strip_dot l.strip j x ≡ column_dot l.frame (64 * l.index + j) x;
}
