-- A table of texts: what is found in it.
use Rattle.std.proofs.Common.{◌≡◌, ◌∙◌, ℕ, List, [], ◌∷◌, Option, None, Some, option_map, map, refl, ap, arith, Bor}
use Rattle.std.specs.List.{find}
use Rattle.std.specs.Str.{bytes_eq}
use Rattle.press_explain.specs.Titles.{text_at}

abbrev pub plain : Bor (List ℕ) × Bor (List ℕ) → List ℕ × List ℕ
plain row = (row.0.now, row.1.now)

find-plain : (key : List ℕ) (rows : List (Bor (List ℕ) × Bor (List ℕ)))
    → option_map plain (find (λ row. bytes_eq row.0.now key) rows) ≡ find (λ row. bytes_eq row.0 key) (map plain rows)
find-plain key [] = refl
find-plain key (row ∷ rows) = grind (arith, find-plain key rows)

text-of : (found : Option (Bor (Bor (List ℕ) × Bor (List ℕ))))
    → option_map (λ row. row.now.1.now) found ≡ option_map (λ row. row.1) (option_map plain (option_map (λ row. row.now) found))
text-of None = refl
text-of (Some row) = refl

-- the text of the row that is found
pub text-found : (key : List ℕ) (rows : List (Bor (List ℕ) × Bor (List ℕ))) (found : Option (Bor (Bor (List ℕ) × Bor (List ℕ)))) (table : List (List ℕ × List ℕ))
    → option_map (λ row. row.now) found ≡ find (λ row. bytes_eq row.0.now key) rows → map plain rows ≡ table
    → option_map (λ row. row.now.1.now) found ≡ text_at key table
text-found key rows found table finds are =
    text-of found ∙ ap (λ one. option_map (λ row. row.1) (option_map plain one)) finds
    ∙ ap (option_map (λ row. row.1)) (find-plain key rows)
    ∙ ap (text_at key) are
