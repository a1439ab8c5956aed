-- Seed rows without the white bytes at their end.
use Rattle.std.proofs.Common.{◌≡◌, ◌≤◌, ◌==◌, ◌&&◌, ℕ, zero, suc, Bool, true, List, [], ◌∷◌, ◌++◌, take, replicate, Option, IfSome, refl, ap, arith, rules}
use Rattle.press_rows.specs.DeltaRow.{laid_over, replacements, deltas}
use Rattle.press_rows.specs.Row.{fitted, raster_row}
use Rattle.press_rows.specs.declared.compression.Method.{Method}
use Rattle.press_rows.specs.declared.compression.Method.TheVariants.{Unencoded, RunLength, PackBits, DeltaRow}
use Rattle.press_raster.specs.Graphics.{are_white, graphics, trimmed, whitened}
use Rattle.press_raster.specs.declared.raster.RasterPosition.{RasterPosition}

-- so many of the bytes, and zeros behind them
abbrev padded : (n : ℕ) → List ℕ → List ℕ
padded zero bytes = []
padded (suc n) [] = 0 ∷ padded n []
padded (suc n) (byte ∷ bytes) = byte ∷ padded n bytes

take-padded : (n m : ℕ) (bytes : List ℕ) → n ≤ m → take n (bytes ++ replicate m 0) ≡ padded n bytes
take-padded zero m bytes within = refl
take-padded (suc n) zero [] within = absurd (omega (arith, within))
take-padded (suc n) (suc m) [] within = ap (λ l. 0 ∷ l) (take-padded n m [] (omega (arith, within)))
take-padded (suc n) m (byte ∷ bytes) within = ap (λ l. byte ∷ l) (take-padded n m bytes (omega (arith, within)))

both : (a b : Bool) → (a && b) ≡ true → (a ≡ true) × (b ≡ true)
both a b is = grind arith

padded-white : (n : ℕ) (bytes : List ℕ) → are_white bytes ≡ true → padded n bytes ≡ padded n []
padded-white zero bytes white = refl
padded-white (suc n) [] white = refl
padded-white (suc n) (byte ∷ bytes) white =
    let each = both (byte == 0) (are_white bytes) white in
    let none : byte ≡ 0 = grind (arith, rules, each.0) in
    λ j. none j ∷ padded-white n bytes each.1 j

padded-trimmed : (n : ℕ) (bytes : List ℕ) → padded n (trimmed bytes) ≡ padded n bytes
padded-trimmed n [] = refl
padded-trimmed zero (byte ∷ bytes) = refl
padded-trimmed (suc n) (byte ∷ bytes) = grind (arith, padded-white, padded-trimmed n bytes)

-- it counts as it did
pub fitted-trimmed : (width : ℕ) (bytes : List ℕ) → fitted width (trimmed bytes) ≡ fitted width bytes
fitted-trimmed width bytes = grind (arith, take-padded, padded-trimmed)

pub raster_row-trimmed : (method : Method) («data» seed : List ℕ) (width : ℕ) → raster_row method «data» (trimmed seed) width ≡ raster_row method «data» seed width
unfolding raster_row
raster_row-trimmed Unencoded «data» seed width = refl
raster_row-trimmed RunLength «data» seed width = refl
raster_row-trimmed PackBits «data» seed width = refl
raster_row-trimmed DeltaRow «data» seed width = ap (laid_over (replacements 0 (deltas 0 «data»))) (fitted-trimmed width seed)

white-replicate : (n : ℕ) → are_white (replicate n 0) ≡ true
white-replicate zero = refl
white-replicate (suc n) = white-replicate n

-- a white one has no byte
pub trimmed_white : (n : ℕ) → trimmed (replicate n 0) ≡ []
trimmed_white n = grind (arith, white-replicate)

white-trimmed : (bytes : List ℕ) → are_white (trimmed bytes) ≡ are_white bytes
white-trimmed [] = refl
white-trimmed (byte ∷ bytes) = grind (arith, white-trimmed bytes)

-- once and twice
pub trimmed-twice : (bytes : List ℕ) → trimmed (trimmed bytes) ≡ trimmed bytes
trimmed-twice [] = refl
trimmed-twice (byte ∷ bytes) = grind (arith, white-trimmed, trimmed-twice bytes)

-- so is the seed row of raster graphics
pub graphics-trimmed : (position : Option RasterPosition) (seed : List ℕ) → IfSome (graphics position seed) (λ on. trimmed on.seed ≡ on.seed)
graphics-trimmed position seed = grind (arith, trimmed-twice)

-- a seed row that was made white
pub whitened-graphics : (position : Option RasterPosition) (seed after : List ℕ) (n : ℕ) → after ≡ replicate n 0 → graphics position after ≡ whitened (graphics position seed)
whitened-graphics position seed after n is = grind (arith, trimmed_white)
