use Rattle.std.proofs.Common.{◌+◌, ◌*◌, arith, rules}
use Rattle.press_bits.specs.Mark.{row}
use Rattle.press_bits.proofs.RepeatLemmas.{turned_prefix}
use Rattle.press_bits.proofs.repeats.Repeats.each_word.Goals as goal

pub returns-then-self : goal.returns-then-self
returns-then-self c = λ k j within.
    grind (arith, turned_prefix (row c.args.self.now.pattern) c.args.self.now.prefix (c.args.first + 64 * k) j (search rules) (c.args.self.now.turns c.if-self.true) c.args.self.now.dots within)
