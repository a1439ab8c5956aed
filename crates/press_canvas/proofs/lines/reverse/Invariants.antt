use Rattle.std.proofs.Common.{◌≡◌, ℕ, ◌-◌, ◌*◌, ◌<◌, length}
use Rattle.press_bits.specs.Mark.{row_dot}
use Rattle.press_canvas.proofs.lines.reverse.Given as goal

-- the words so far
abbrev pub invariant-loop-word : goal.invariant-loop-word
invariant-loop-word l = record {
  long : length l.out ≡ 2048;
  dots : (x : ℕ) → x < 64 * l.word → x < l.dots → row_dot l.out x ≡ row_dot l.bits (l.dots - 1 - x);
}
