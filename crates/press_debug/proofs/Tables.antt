-- Lookups in the table of breakpoints, and the last of a list.
use Rattle.std.proofs.Common.{◌≡◌, ◌∙◌, ◌+◌, ◌-◌, ◌≤◌, ℕ, List, [], ◌++◌, length, length-append, drop, sym, ap, arith}
use Rattle.std.proofs.lemmas.List.{drop-append-le, drop-drop, length-drop, append-nil}
use Rattle.circular_buffer.specs.Buffer.{keep_last}

-- the last of a list of which the last were kept before
pub keep_last-twice : {X : Type 0} (n : ℕ) (xs ys : List X) → keep_last n (keep_last n xs ++ ys) ≡ keep_last n (xs ++ ys)
keep_last-twice n xs ys =
    let k = length xs - n in
    let small : k ≤ length xs = omega arith in
    let joined : drop k (xs ++ ys) ≡ drop k xs ++ ys = drop-append-le k xs ys small in
    let sum : length (drop k xs ++ ys) ≡ (length xs - k) + length ys = length-append (drop k xs) ys ∙ ap (λ (m : ℕ). m + length ys) (length-drop k xs) in
    let all : length (xs ++ ys) ≡ length xs + length ys = length-append xs ys in
    let add : k + (length (drop k xs ++ ys) - n) ≡ length (xs ++ ys) - n = omega (arith, sum, all) in
    ap (drop (length (drop k xs ++ ys) - n)) (sym joined) ∙ drop-drop (length (drop k xs ++ ys) - n) k (xs ++ ys) ∙ ap (λ (m : ℕ). drop m (xs ++ ys)) add

-- a short list is kept whole
pub keep_last-all : {X : Type 0} (n : ℕ) (xs : List X) → length xs ≤ n → xs ≡ keep_last n (xs ++ [])
keep_last-all n xs few = grind (arith, append-nil)

-- so many are kept at most
pub keep_last-few : {X : Type 0} (n : ℕ) (xs : List X) → length (keep_last n xs) ≤ n
keep_last-few n xs = omega (arith, length-drop (length xs - n) xs)
