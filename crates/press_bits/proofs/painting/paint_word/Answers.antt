use Rattle.std.proofs.Common.{◌+◌, ◌-◌, ◌*◌, arith}
use Rattle.press_bits.specs.Mark.{row, row_dot, repeated}
use Rattle.press_bits.proofs.AlongLemmas.{painted_word}
use Rattle.press_bits.proofs.painting.paint_word.Goals as goal

pub returns : goal.returns
returns c =
    painted_word c.args.rows.now c.put_word.new.rows c.args.stroke.now.mode
    (λ p. row_dot c.args.stroke.now.source.bits.now (c.args.stroke.now.run.skip + (p - (8 * c.args.line + c.args.stroke.now.run.first))))
    (λ p. repeated (row c.args.stroke.now.through.pattern) (p - 8 * c.args.line))
    c.args.part.index c.args.part.from c.args.part.to c.source_word-dots.result c.word-through.result c.mask_word-mask.result c.whole_word_at-before.result c.mixed_word-after.result
    c.args.part.begun c.args.part.within
    (λ j within left. grind (arith, c.source_word-dots.ensures j)) (λ j within. grind (arith, c.word-through.ensures j))
    c.mask_word-mask.ensures c.whole_word_at-before.ensures.dots c.mixed_word-after.ensures c.put_word.ensures.here c.put_word.ensures.elsewhere
