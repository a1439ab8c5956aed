use Rattle.std.proofs.Common.{◌≡◌, ◌+◌, ◌-◌, ◌*◌, ◌/◌, true, refl, subst, arith}
use Rattle.press_bits.specs.DotRule.{both_transparent}
use Rattle.press_bits.specs.Ranges.{IsBlackened}
use Rattle.press_bits.proofs.AlongLemmas.{blackened_word, painted_bytes}
use Rattle.press_bits.proofs.painting.blacken_next.Goals as goal

pub returns-then-from-ne0-clause-black : goal.returns-then-from-ne0-clause-black
returns-then-from-ne0-clause-black c =
    blackened_word c.args.rows.now c.put_word.new.rows c.min-index.result c.args.from c.min-to.result c.mask_word.result c.word_at.result
    (omega (arith, c.min-index.ensures)) (omega (arith, c.min-to.ensures)) c.mask_word.ensures c.word_at.ensures.dots c.put_word.ensures.here c.put_word.ensures.elsewhere

pub returns-clause-black : goal.returns-clause-black
returns-clause-black c =
    let begin : c.args.from ≡ 8 * (c.args.from / 8) = omega arith in
    let stop : 8 * (c.args.from / 8 + 8 * ((c.args.end - c.args.from) / 64)) ≡ c.args.from + 64 * ((c.args.end - c.args.from) / 64) = omega arith in
    subst (IsBlackened c.args.rows.now _ c.args.from) stop
    (painted_bytes c.args.rows.now c.fill.new.self both_transparent (λ _. true) (λ _. true) c.args.from (c.args.from / 8) (c.args.from / 8 + 8 * ((c.args.end - c.args.from) / 64))
    begin (omega arith) (omega arith) (c.fill.ensures.after (λ y e. e)) (λ p reached left. refl) (λ p. refl))
