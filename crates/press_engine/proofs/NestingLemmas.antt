-- Bodies that run lie with the innermost last, and are told with the innermost first.
use Rattle.std.proofs.Common.{◌≡◌, ◌∙◌, ◌-◌, ℕ, List, [], ◌∷◌, ◌++◌, length, reverse, slice_index_or, slice_set, sym, ap, arith, length-append}
use Rattle.std.proofs.lemmas.List.{reverse-append, reverse-reverse}
use Rattle.std.proofs.Math.Seq.{get_or-append_seam, set-append_seam}

-- what lies last is told first
lies-last : {A : Type 0} (items outer : List A) (innermost : A) → reverse items ≡ innermost ∷ outer → items ≡ reverse outer ++ (innermost ∷ [])
lies-last items outer innermost is = sym (reverse-reverse items) ∙ ap reverse is ∙ reverse-append (innermost ∷ []) outer

last-place : {A : Type 0} (front : List A) (last : A) → length (front ++ (last ∷ [])) - 1 ≡ length front
last-place front last = omega (arith, length-append front (last ∷ []))

pub innermost-lies : {A : Type 0} (items : List A) {outer : List A} {innermost : A} → reverse items ≡ innermost ∷ outer → (count : ℕ) → count ≡ length items → (other : A)
    → slice_index_or items (count - 1) other ≡ innermost
innermost-lies items {outer} {innermost} is count counted other =
    let all = lies-last items outer innermost is in
    (λ i. slice_index_or (all i) ((counted ∙ ap length all) i - 1) other)
    ∙ ap (λ place. slice_index_or (reverse outer ++ (innermost ∷ [])) place other) (last-place (reverse outer) innermost)
    ∙ get_or-append_seam (reverse outer) innermost [] other

pub innermost-set : {A : Type 0} (items : List A) {outer : List A} {innermost : A} → reverse items ≡ innermost ∷ outer → (count : ℕ) → count ≡ length items → (other : A)
    → reverse (slice_set items (count - 1) other) ≡ other ∷ outer
innermost-set items {outer} {innermost} is count counted other =
    let all = lies-last items outer innermost is in
    (λ i. reverse (slice_set (all i) ((counted ∙ ap length all) i - 1) other))
    ∙ ap (λ place. reverse (slice_set (reverse outer ++ (innermost ∷ [])) place other)) (last-place (reverse outer) innermost)
    ∙ ap reverse (set-append_seam (reverse outer) innermost [] other)
    ∙ reverse-append (reverse outer) (other ∷ [])
    ∙ ap (λ list. other ∷ list) (reverse-reverse outer)
