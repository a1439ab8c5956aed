use Rattle.std.proofs.Common.{◌≡◌, ℕ, ◌+◌, ◌-◌, ◌*◌, ◌/◌, ◌^◌, arith}
use Rattle.press_bits.specs.Mark.{row, row_dot, repeated}
use Rattle.press_bits.proofs.AlongLemmas.{painted_word}
use Rattle.press_bits.proofs.painting.mix_word.Goals as goal

-- a number that is shifted by nothing
unshifted : (n place : ℕ) → n ≡ n / 2 ^ (place - place)
unshifted n place = grind arith

pub returns : goal.returns
returns c =
    painted_word c.args.rows.now c.put_word.new.rows c.args.stroke.now.mode
    (λ p. row_dot c.args.stroke.now.source.bits.now (c.args.stroke.now.run.skip + (p - (8 * c.args.line + c.args.stroke.now.run.first))))
    (λ p. repeated (row c.args.stroke.now.through.pattern) (p - 8 * c.args.line))
    c.args.index (8 * c.args.index) (8 * c.args.index + 64) c.args.dots c.args.through c.mask_word-mask.result c.whole_word_at-before.result c.mixed_word-after.result
    (omega arith) (omega arith)
    (λ j within _. grind (arith, c.requires.dots j)) (λ j within. grind (arith, c.requires.through j))
    c.mask_word-mask.ensures c.whole_word_at-before.ensures.dots (λ j within. grind (arith, c.mixed_word-after.ensures j, unshifted))
    c.put_word.ensures.here c.put_word.ensures.elsewhere
