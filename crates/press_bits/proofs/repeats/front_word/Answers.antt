use Rattle.std.proofs.Common.{ap, ◌∙◌, arith, rules}
use Rattle.press_bits.specs.Mark.{row_dot}
use Rattle.press_bits.proofs.WordLemmas.{two_bytes}
use Rattle.press_bits.proofs.repeats.front_word.Goals as goal

pub returns-then-pattern-gt16 : goal.returns-then-pattern-gt16
returns-then-pattern-gt16 c = λ j within _. c.word_at.ensures.dots j within ∙ ap (row_dot c.args.pattern.bits.now) (omega arith)

pub returns : goal.returns
returns c = λ j _ before.
    two_bytes c.args.pattern.bits.now c.byte_at.result c.byte_at-2.result c.from_be_bytes.result j (omega arith) (omega arith) c.byte_at.ensures c.byte_at-2.ensures (search rules)
    (omega (arith, before, c.if-pattern-gt16.false))
