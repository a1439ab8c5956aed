use Rattle.std.proofs.Math.Nat.{mul-le-mul_right}
use Rattle.press_bits.proofs.LineLemmas.{row_dot-past}
use Rattle.press_bits.proofs.LineLemmas.{row_dot-slice}
use Rattle.std.proofs.Common.{◌∙◌, inl, inr, arith}
use Rattle.std.proofs.lemmas.Bool.{cases_eq}
use Rattle.std.proofs.lemmas.List.{get_or-set_same, get_or-set_other, length-set}
use Rattle.press_canvas.proofs.turned_strip.gather.Goals as goal

pub loop-line-preserved : goal.loop-line-preserved
loop-line-preserved c = record {
  long = length-set c.loop-line.words _ _ ∙ c.loop-line.invariant.long;
  dots = λ i j before low within.
      elim (cases_eq i c.loop-line.line) [
        | inl here ↦
            grind (
              arith,
              c.width.ensures.width,
              get_or-set_same c.loop-line.words c.loop-line.line c.word_at.result 0 (omega (arith, c.loop-line.invariant.long, c.loop-line-test.true)),
              c.word_at.ensures.dots j low,
              row_dot-slice,
              row_dot-past,
              mul-le-mul_right,
              c.band-lines.ensures,
            )
        | inr apart ↦ grind (arith, get_or-set_other c.loop-line.words c.loop-line.line i c.word_at.result 0 apart, c.loop-line.invariant.dots i j)
      ];
}
