use Rattle.std.proofs.Math.Nat.{mul-add-div_right}
use Rattle.std.proofs.Math.Nat.{mul_comm}
use Rattle.std.proofs.Math.Nat.{mul_assoc}
use Rattle.std.proofs.Common.{◌≡◌, ℕ, ◌∙◌, ◌+◌, ◌-◌, ◌*◌, ◌/◌, ◌<◌, ◌≤◌, inl, inr, ap, arith, rules}
use Rattle.std.proofs.lemmas.Bool.{cases_lt}
use Rattle.std.proofs.lemmas.Nat.{div_below}
use Rattle.press_raster.proofs.WideLemmas.{words_next}
use Rattle.press_raster.proofs.widening.widen_by.Goals as goal

pub loop-byte-preserved : goal.loop-byte-preserved
loop-byte-preserved c =
    let size : ℕ = c.args.size in
    let byte : ℕ = c.loop-byte.byte in
    let some : 1 ≤ size = omega (arith, c.requires.wide) in
    let bits = c.args.source.bits.now in record {
      long = search rules;
      dots = λ i within.
          elim (cases_lt i (8 * (size * byte))) [
            | inl before ↦ grind (arith, c.put_word.ensures.elsewhere i (inl before), c.loop-byte.invariant.dots i)
            | inr from ↦
                let j : ℕ = i - 8 * (size * byte) in
                let low : j < 8 * size = omega (arith, within, from, words_next size byte) in
                let place : i / size ≡ 8 * byte + j / size = ap (λ n. n / size) (omega (arith, from, mul_assoc 8 byte size, mul_comm byte size)) ∙ mul-add-div_right some (8 * byte) j in
                grind (arith, place, c.put_word.ensures.here j, c.widened-wide.ensures j, c.eight_of.ensures (j / size) (div_below j size 8 some low))
          ];
    }
