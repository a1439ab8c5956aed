-- Bytes that were written one after the other.
use Rattle.std.proofs.Common.{◌≡◌, ◌<◌, ◌+◌, ℕ, ◌-◌, List, ◌++◌, take, drop, length, Option, Result, Ok, Err, IsErr, OnErr, sym, ap, ◌∙◌, append_assoc, take-append-drop, get_or, Bor}
use Rattle.std.proofs.lemmas.List.{take_rest, at_drop_more}
use Rattle.std.specs.List.{flat_map}
use Rattle.std.specs.Io.KnownBytes.{Appends}
use Rattle.std.proofs.KnownBytes.{Appends-trans}
use Rattle.press_devices.specs.Writing.{AppendsPrefix, Writes}

-- a writer took the front of what was left
pub moves_prefix : (all done rest : List ℕ) (n : ℕ) → all ≡ done ++ rest → all ≡ (done ++ take n rest) ++ take (length rest - n) (drop n rest)
moves_prefix all done rest n e =
    e ∙ ap (λ l. done ++ l) (sym (take-append-drop n rest)) ∙ sym (append_assoc done (take n rest) (drop n rest)) ∙ ap (λ l. (done ++ take n rest) ++ l) (sym (take_rest rest n))

-- a prefix of the first bytes is one of all
pub prefix_more : (old new : Option (List ℕ)) (bytes others : List ℕ) → AppendsPrefix old new bytes → AppendsPrefix old new (bytes ++ others)
prefix_more old new bytes others (prefix, back, split, wrote) = (prefix, back ++ others, ap (λ l. l ++ others) split ∙ append_assoc prefix back others, wrote)

-- the first bytes were written, and a prefix of the others
pub prefix_then : (old middle new : Option (List ℕ)) (bytes others : List ℕ) → Appends old middle bytes → AppendsPrefix middle new others → AppendsPrefix old new (bytes ++ others)
prefix_then old middle new bytes others wrote (prefix, back, split, then) =
    (bytes ++ prefix, back, ap (λ l. bytes ++ l) split ∙ sym (append_assoc bytes prefix back), Appends-trans old middle new bytes prefix wrote then)

-- the first bytes were written, and then others
pub Writes-then : {X E : Type 0} (result : Result X E) (old middle new : Option (List ℕ)) (bytes others : List ℕ)
    → Appends old middle bytes → Writes result middle new others → Writes result old new (bytes ++ others)
Writes-then (Ok x) old middle new bytes others wrote then = Appends-trans old middle new bytes others wrote then
Writes-then (Err e) old middle new bytes others wrote then = prefix_then old middle new bytes others wrote then

-- a write failed within the first bytes
pub Writes-stopped : {X E : Type 0} (result : Result X E) (old new : Option (List ℕ)) (bytes others : List ℕ) → IsErr result → AppendsPrefix old new bytes → Writes result old new (bytes ++ others)
Writes-stopped {X = X} {E = E} (Ok x) old new bytes others is prefix = cc
Writes-stopped (Err e) old new bytes others is prefix = prefix_more old new bytes others prefix

-- what was written where a write failed
pub OnErr-Writes : {X E : Type 0} (result : Result X E) (old new : Option (List ℕ)) (bytes : List ℕ) → Writes result old new bytes → OnErr result (AppendsPrefix old new bytes)
OnErr-Writes (Ok x) old new bytes wrote = tt
OnErr-Writes (Err e) old new bytes wrote = wrote

-- the bytes of pieces
abbrev pub bytes_of : List (Bor (List ℕ)) → List ℕ
bytes_of = flat_map (λ (piece : Bor (List ℕ)). piece.now)

-- one piece more was taken
pub pieces_next : (pieces : List (Bor (List ℕ))) (i : ℕ) (default : Bor (List ℕ)) (done : List ℕ) → i < length pieces
    → bytes_of pieces ≡ done ++ bytes_of (drop i pieces)
    → bytes_of pieces ≡ (done ++ (get_or pieces i default).now) ++ bytes_of (drop (i + 1) pieces)
pieces_next pieces i default done inside split =
    split ∙ ap (λ rest. done ++ rest) (at_drop_more bytes_of pieces i default inside)
    ∙ sym (append_assoc done (get_or pieces i default).now (bytes_of (drop (i + 1) pieces)))
