use Rattle.std.proofs.Common.{◌≡◌, ◌∙◌, ◌<◌, ℤ, pos, ap, to_z, of_z, w64, arith}
use Rattle.std.proofs.lemmas.Int.{to_z_pos}
use Rattle.press_bits.proofs.MarkLemmas.{IsAllBlack-replicate}
use Rattle.press_bits.proofs.bands.Bands.ink.Goals as goal

pub paint_dots-requires-clause-black : goal.paint_dots-requires-clause-black
paint_dots-requires-clause-black c = λ _. (IsAllBlack-replicate 2048 c.args.dots (omega (arith, c.requires.narrow))).black

pub returns-clause-painted : goal.returns-clause-painted
returns-clause-painted c =
    let x_small : c.args.x < 9223372036854775808 = omega arith in
    let y_small : c.args.y < 9223372036854775808 = omega arith in
    let column : to_z w64 (of_z w64 c.from.result) ≡ pos c.args.x = ap (λ (z : ℤ). to_z w64 (of_z w64 z)) c.from.ensures ∙ to_z_pos w64 c.args.x x_small in
    let line : to_z w64 (of_z w64 c.from-2.result) ≡ pos c.args.y = ap (λ (z : ℤ). to_z w64 (of_z w64 z)) c.from-2.ensures ∙ to_z_pos w64 c.args.y y_small in
    cc (c.paint_dots.ensures.painted, column, line)
