use Rattle.std.proofs.Common.{rules}
use Rattle.press_bits.specs.Mark.{row}
use Rattle.press_bits.proofs.RepeatLemmas.{black_prefix}
use Rattle.press_bits.proofs.repeats.Repeats.is_black.Goals as goal

pub returns-then-self : goal.returns-then-self
returns-then-self c = λ black. black_prefix (row c.args.self.now.pattern) c.args.self.now.prefix (search (rules, black)) (c.args.self.now.turns c.if-self.true) c.args.self.now.dots
