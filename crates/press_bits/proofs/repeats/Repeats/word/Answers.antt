use Rattle.std.proofs.Common.{◌+◌, ◌-◌, ◌%◌, arith}
use Rattle.press_bits.specs.Mark.{row}
use Rattle.press_bits.proofs.RepeatLemmas.{repeated-first, repeated-phase, IsPeriod-dots}
use Rattle.press_bits.proofs.repeats.Repeats.word.Goals as goal

pub returns-in-Some : goal.returns-in-Some
returns-in-Some c = λ j within. grind (arith, c.in-Some.ensures 0 j)

pub returns-then-known-lt64 : goal.returns-then-known-lt64
returns-then-known-lt64 c = λ j within.
    let pattern = row c.args.self.now.pattern in
    let known = pattern.dots - c.args.first % pattern.dots in
    grind (
      arith,
      c.joined.ensures.prefix j,
      c.joined.ensures.rest j,
      c.word_from-word.ensures j,
      repeated-first pattern (c.args.first % pattern.dots + j),
      repeated-phase pattern c.args.first j,
      IsPeriod-dots pattern (j - known),
      c.args.self.now.dots (j - known),
    )

pub returns-else-known-lt64 : goal.returns-else-known-lt64
returns-else-known-lt64 c = λ j within.
    let pattern = row c.args.self.now.pattern in
    grind (arith, c.word_from-word.ensures j, repeated-first pattern (c.args.first % pattern.dots + j), repeated-phase pattern c.args.first j)
