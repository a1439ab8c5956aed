use Rattle.std.proofs.Common.{◌+◌, ◌*◌, ◌/◌, ◌≡◌, arith}
use Rattle.press_bits.proofs.ByteLemmas.{row_dot-of_byte}
use Rattle.press_bits.proofs.dot_row.DotRow.eight_of.Goals as goal

pub returns : goal.returns
returns c = λ j low.
    let here : (8 * c.args.byte + j) / 8 ≡ c.args.byte = omega (arith, low) in
    grind (arith, c.byte_at.ensures, row_dot-of_byte c.args.self.bits.now c.args.byte (8 * c.args.byte + j) here)
