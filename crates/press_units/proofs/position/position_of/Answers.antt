use Rattle.std.proofs.Common.{ℕ, ℤ, pos, ◌≤◌, ◌<◌, ◌^◌, ◌≡◌, ◌∙◌, ◌*ℤ◌, w64, arith, rules, ap}
use Rattle.std.specs.Prelude.{int_div, unsigned_abs}
use mir.Val.{to_z, of_z, SFits}
use Rattle.std.proofs.lemmas.Int.{ints, to_z-of_z, quot_fits, fits_signed_mul}
use Rattle.press_units.proofs.position.position_of.Goals as goal

-- the code's quotient of a product, where all fits
quotient : (t u : ℤ) → SFits w64 t → SFits w64 u → SFits w64 (t *ℤ u)
    → to_z w64 (of_z w64 (int_div (to_z w64 (of_z w64 (to_z w64 (of_z w64 t) *ℤ to_z w64 (of_z w64 u)))) (pos 10000)))
    ≡ int_div (t *ℤ u) (pos 10000)
quotient t u fits_t fits_u fits_product =
    ap (λ (z : ℤ). to_z w64 (of_z w64 (int_div (to_z w64 (of_z w64 (z *ℤ to_z w64 (of_z w64 u)))) (pos 10000)))) (to_z-of_z w64 t fits_t)
    ∙ ap (λ (z : ℤ). to_z w64 (of_z w64 (int_div (to_z w64 (of_z w64 (t *ℤ z))) (pos 10000)))) (to_z-of_z w64 u fits_u)
    ∙ ap (λ (z : ℤ). to_z w64 (of_z w64 (int_div z (pos 10000)))) (to_z-of_z w64 (t *ℤ u) fits_product)
    ∙ to_z-of_z w64 (int_div (t *ℤ u) (pos 10000)) (quot_fits w64 (t *ℤ u) (pos 10000) fits_product (omega (arith, ints)))

product_fits : (t u : ℤ) (distance : ℕ) → unsigned_abs t < 2 ^ 31 → u ≡ pos distance → distance < 2 ^ 32 → SFits w64 (t *ℤ u)
product_fits t u distance small e below =
    let distance_bound : unsigned_abs u ≤ 4294967295 = rw e (omega arith) in
    fits_signed_mul w64 t u 2147483647 4294967295 (omega arith) distance_bound (omega arith)

pub returns-clause-position : goal.returns-clause-position
returns-clause-position c =
    let fits_value : SFits w64 c.args.tenthousandths = search rules in
    let fits_distance : SFits w64 c.from.result = search rules in
    let fits_product = product_fits c.args.tenthousandths c.from.result c.args.distance c.requires c.from.ensures (search rules) in
    quotient c.args.tenthousandths c.from.result fits_value fits_distance fits_product ∙ ap (λ (u : ℤ). int_div (c.args.tenthousandths *ℤ u) (pos 10000)) c.from.ensures
