-- Rows that are decoded after a seed row of any width.
use Rattle.std.proofs.Common.{◌≡◌, ℕ, List, ap, arith, rules, refl}
use Rattle.std.proofs.lemmas.List.{same_lists, places}
use Rattle.press_rows.specs.DeltaRow.{laid_over, replacements, deltas}
use Rattle.press_rows.specs.Row.{fitted, raster_row}
use Rattle.press_rows.specs.declared.compression.Method.{Method}
use Rattle.press_rows.specs.declared.compression.Method.TheVariants.{Unencoded, RunLength, PackBits, DeltaRow}

-- cut or filled up twice is once
pub fitted_twice : (width : ℕ) (bytes : List ℕ) → fitted width (fitted width bytes) ≡ fitted width bytes
fitted_twice width bytes = same_lists _ _ (search (rules, places)) (λ k d l. grind (arith, places))

-- the seed counts as it is cut or filled up
pub raster_row-fitted : (method : Method) («data» seed : List ℕ) (width : ℕ) → raster_row method «data» (fitted width seed) width ≡ raster_row method «data» seed width
unfolding raster_row
raster_row-fitted Unencoded «data» seed width = refl
raster_row-fitted RunLength «data» seed width = refl
raster_row-fitted PackBits «data» seed width = refl
raster_row-fitted DeltaRow «data» seed width = ap (laid_over (replacements 0 (deltas 0 «data»))) (fitted_twice width seed)
