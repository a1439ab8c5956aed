use Rattle.std.proofs.Common.{arith, rules}
use Rattle.press_bits.proofs.InkLemmas.{white_behind}
use Rattle.press_bits.proofs.painting.begin_of_ink.Goals as goal

pub loop-begin-preserved : goal.loop-begin-preserved
loop-begin-preserved c = record {
  begun = omega (arith, c.loop-begin.invariant.begun);
  white = white_behind c.args.bits.now c.args.first c.loop-begin.begin c.whole_word_at.result c.loop-begin.invariant.white c.whole_word_at.ensures.dots (search rules);
}
