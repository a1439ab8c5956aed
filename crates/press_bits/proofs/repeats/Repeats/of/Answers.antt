use Rattle.std.proofs.Common.{◌∙◌}
use Rattle.press_bits.specs.Mark.{row}
use Rattle.press_bits.proofs.RepeatLemmas.{repeated-first, IsPeriod-dots}
use Rattle.press_bits.proofs.repeats.Repeats.of.Goals as goal

pub loop-known-init : goal.loop-known-init
loop-known-init c = record {
  some = c.requires;
  period = IsPeriod-dots (row c.args.pattern);
  dots = λ j within before. c.front_word-prefix.ensures j within before ∙ repeated-first (row c.args.pattern) j before;
}
