-- Bytes in front of those that a reader gives.
use Rattle.std.proofs.Common.{◌≡◌, ◌∙◌, ◌+◌, ◌-◌, ◌≤◌, ◌⊎◌, inl, inr, ℕ, List, [], ◌++◌, take, drop, length, min, Option, Some, None, sym, ap, subst, arith, append_assoc, append-nil, take-append-drop, drop_at}
use Rattle.std.proofs.Math.Seq.{take-append-add}
use Rattle.std.proofs.lemmas.List.{drop_all, length-drop, length-take-le}
use Rattle.std.specs.Io.KnownBytes.{Consumes, IsAtEnd}
use Rattle.std.specs.Fmt.{option_append}
use borrow.Rule.Slice.PartMut.{put_mid}

-- all of the bytes stand in front
all_in_front : (n : ℕ) (bytes : List ℕ) → length bytes ≤ n → take n bytes ≡ bytes
all_in_front n bytes all =
    sym (append-nil (take n bytes)) ∙ ap (λ rest. take n bytes ++ rest) (sym (drop_all n bytes all)) ∙ take-append-drop n bytes

-- the first bytes, and what the reader gave behind them
front_then : (n given : ℕ) (bytes piece : List ℕ) → n ≤ length bytes
    → take (n + given) (take n bytes ++ piece) ≡ take n bytes ++ take given piece
front_then n given bytes piece within =
    ap (λ k. take (k + given) (take n bytes ++ piece)) (sym (length-take-le n bytes within)) ∙ take-append-add (take n bytes) piece given

-- The first bytes are given, and behind them, where none is left, what the reader gave.
consumes-behind : (n given : ℕ) (bytes piece : List ℕ) (had left : Option (List ℕ)) → (length bytes ≤ n) ⊎ (take given piece ≡ [])
    → Consumes had left (take given piece)
    → Consumes (option_append (Some bytes) had) (option_append (Some (drop n bytes)) left) (take n bytes ++ take given piece)
consumes-behind n given bytes piece None None why gives = tt
consumes-behind n given bytes piece None (Some left) why gives = tt
consumes-behind n given bytes piece (Some had) None why gives = absurd gives
consumes-behind n given bytes piece (Some had) (Some left) (inl all) gives =
    let P : List ℕ → List ℕ → Type 0 = λ front rest. bytes ++ had ≡ (front ++ take given piece) ++ (rest ++ left) in
    let whole : P bytes [] = ap (λ l. bytes ++ l) gives ∙ sym (append_assoc bytes (take given piece) left) in
    subst (λ front. P front (drop n bytes)) (sym (all_in_front n bytes all)) (subst (P bytes) (sym (drop_all n bytes all)) whole)
consumes-behind n given bytes piece (Some had) (Some left) (inr none) gives =
    let P : List ℕ → Type 0 = λ read. bytes ++ had ≡ (take n bytes ++ read) ++ (drop n bytes ++ left) in
    let same : had ≡ left = gives ∙ ap (λ read. read ++ left) none in
    subst P (sym none)
    (ap (λ l. bytes ++ l) same ∙ ap (λ l. l ++ left) (sym (take-append-drop n bytes)) ∙ append_assoc (take n bytes) (drop n bytes) left
    ∙ ap (λ l. l ++ (drop n bytes ++ left)) (sym (append-nil (take n bytes))))

-- the end of the reader is that of all, where no byte is in front
pub at_end-behind : (n : ℕ) (bytes rest : List ℕ) (left : Option (List ℕ)) → rest ≡ drop n bytes → length bytes ≤ n → IsAtEnd left
    → IsAtEnd (option_append (Some rest) left)
at_end-behind n bytes rest left behind all ends = grind (arith, drop_all)

-- The same of a buffer that is these bytes and the piece.
pub gives-behind : (n given : ℕ) (bytes rest buffer piece : List ℕ) (had left : Option (List ℕ)) → n ≤ length bytes → rest ≡ drop n bytes
    → buffer ≡ take n bytes ++ piece → (length bytes ≤ n) ⊎ (take given piece ≡ []) → Consumes had left (take given piece)
    → Consumes (option_append (Some bytes) had) (option_append (Some rest) left) (take (n + given) buffer)
gives-behind n given bytes rest buffer piece had left within behind held why gives = grind (arith, front_then, consumes-behind)

-- what the end of a buffer holds where a piece was put
pub end_put : (n : ℕ) (buffer piece : List ℕ) → n ≤ length buffer → drop n (put_mid n (length buffer - n) buffer piece) ≡ piece
end_put n buffer piece within = grind (arith, drop_at, length-take-le, drop_all, length-drop, append-nil)

-- all of the bytes stand in front, or the buffer has no room behind them
pub either : (n given : ℕ) (bytes buffer piece : List ℕ) → n ≡ min (length bytes) (length buffer) → length piece ≡ length buffer - n
    → given ≤ length piece → (length bytes ≤ n) ⊎ (take given piece ≡ [])
either n given bytes buffer piece least long within = grind arith
