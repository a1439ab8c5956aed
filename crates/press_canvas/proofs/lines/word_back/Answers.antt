use Rattle.std.proofs.Common.{◌-◌, arith}
use Rattle.press_bits.proofs.WordLemmas.{shifted_right}
use Rattle.press_canvas.proofs.lines.word_back.Goals as goal
use Rattle.press_canvas.proofs.lines.word_back.Goals.{then-left-lt64, else-left-lt64}

pub returns : goal.returns
returns c = λ i low within.
    elim c.if-left-lt64.branch [
      | then-left-lt64 w ↦
          let at = 63 - i - (64 - (c.args.dots - c.args.after)) in
          grind (arith, c.reversed.ensures i low, w.word-is, w.if-left-lt64.true, shifted_right w.word_from.result (64 - (c.args.dots - c.args.after)) (63 - i), w.word_from.ensures at)
      | else-left-lt64 w ↦ grind (arith, c.reversed.ensures i low, w.word-is, w.if-left-lt64.false, w.word_from-word.ensures (63 - i))
    ]
