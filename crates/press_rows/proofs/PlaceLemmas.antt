-- The places in which two rows have the same byte, one place further on.
use Rattle.std.proofs.Common.{◌≡◌, ℕ, suc, ◌+◌, ◌≤◌, ◌<◌, min, eqb, Bool, List, [], ◌∷◌, length, get_or, drop, refl, ap, ◌∙◌, arith}
use Rattle.std.proofs.lemmas.List.{length-drop}
use Rattle.std.proofs.Math.Seq.{drop-cons}
use mir.Val.{bool_byte}
use Rattle.press_rows.specs.Encoding.{same_places}

pub bool_byte-le-one : (b : Bool) → bool_byte b ≤ 1
bool_byte-le-one b = grind arith

next : (xs : List ℕ) (i : ℕ) → i < length xs → drop i xs ≡ get_or xs i 0 ∷ drop (i + 1) xs
next xs i h = drop-cons xs i 0 h ∙ ap (λ (n : ℕ). get_or xs i 0 ∷ drop n xs) (let e : suc i ≡ i + 1 = omega arith in e)

pub same_places-step : (row other : List ℕ) (i : ℕ) → i < length row → i < length other
    → same_places (drop i row) (drop i other) ≡ bool_byte (eqb (get_or row i 0) (get_or other i 0)) + same_places (drop (i + 1) row) (drop (i + 1) other)
unfolding same_places
same_places-step row other i h k = grind (arith, next row i h, next other i k)

no_place : (row other : List ℕ) → min (length row) (length other) ≤ 0 → same_places row other ≡ 0
unfolding same_places
no_place [] other h = refl
no_place (byte ∷ row) [] h = refl
no_place (byte ∷ row) (old ∷ other) h = absurd (omega arith)

pub same_places-end : (row other : List ℕ) (i : ℕ) → min (length row) (length other) ≤ i → same_places (drop i row) (drop i other) ≡ 0
same_places-end row other i h = no_place (drop i row) (drop i other) (omega (arith, length-drop i row, length-drop i other))

pub drop_one : (xs : List ℕ) → drop (min (length xs) 1) xs ≡ drop 1 xs
drop_one xs = grind arith
