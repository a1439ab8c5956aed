use Rattle.std.proofs.Common.{arith, rules}
use Rattle.press_bits.proofs.InkLemmas.{white_before}
use Rattle.press_bits.proofs.painting.end_of_ink.Goals as goal

pub loop-last-preserved : goal.loop-last-preserved
loop-last-preserved c = record {
  within = omega (arith, c.loop-last.invariant.within);
  white = white_before c.args.bits.now c.loop-last.last c.args.end c.whole_word_at.result c.loop-last.invariant.white (search rules) c.whole_word_at.ensures.dots (search rules);
}
