use Rattle.std.proofs.Common.{ap, ◌∙◌, arith}
use Rattle.press_bits.specs.Mark.{row, repeated}
use Rattle.press_bits.proofs.painting.mix_inner_words.Goals as goal

pub mix_word-requires-clause-through : goal.mix_word-requires-clause-through
mix_word-requires-clause-through c = λ j within. c.requires.through c.loop-word.word j within ∙ ap (repeated (row c.args.stroke.now.through.pattern)) (omega arith)
