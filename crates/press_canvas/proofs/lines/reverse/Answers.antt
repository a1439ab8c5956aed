use Rattle.std.proofs.Common.{◌-◌, ◌*◌, inl, inr, arith, rules}
use Rattle.press_canvas.proofs.lines.reverse.Goals as goal

pub loop-word-preserved : goal.loop-word-preserved
loop-word-preserved c = record {
  long = search rules;
  dots = λ x before within.
      grind (
        arith,
        c.put_word.ensures.elsewhere x,
        c.loop-word.invariant.dots x,
        c.put_word.ensures.here (x - 64 * c.loop-word.word),
        c.word_back.ensures (x - 64 * c.loop-word.word),
        inl,
        inr,
      );
}
