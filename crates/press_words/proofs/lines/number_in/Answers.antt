use Rattle.std.proofs.Common.{◌∙◌, ◌≤◌, ◌*◌, arith}
use Rattle.press_words.proofs.NumberLemmas.{too_great}
use Rattle.press_words.proofs.lines.number_in.Goals as goal

pub returns-in_err-checked_mul : goal.returns-in_err-checked_mul
returns-in_err-checked_mul c =
    let past : 18446744073709551616 ≤ c.loop-byte.number * 10 = omega (arith, c.in_err-checked_mul.ensures) in
    c.from_residual.ensures ∙ too_great c.args.word.now c.loop-byte.byte-index c.loop-byte-test.true (omega (arith, past, c.loop-byte.invariant.number))

pub returns-in_err-number : goal.returns-in_err-number
returns-in_err-number c =
    c.from_residual-in_err-number.ensures
    ∙ too_great c.args.word.now c.loop-byte.byte-index c.loop-byte-test.true
    (omega (arith, c.in_err-number.ensures, c.from-digit.ensures, c.in_ok-checked_mul.ensures, c.loop-byte.invariant.number))
