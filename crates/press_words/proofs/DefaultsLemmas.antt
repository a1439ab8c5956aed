-- The texts of defaults, and their lines one after another.
use Rattle.std.proofs.Common.{◌≡◌, ◌∙◌, ◌<◌, ◌+◌, ◌==◌, ℕ, Bool, true, false, List, [], ◌∷◌, ◌++◌, Bor, codes, length, take, get_or, map, refl, sym, ap, subst}
use Rattle.std.specs.List.{flat_map, list_all}
use Rattle.std.proofs.lemmas.Bool.{true≢false}
use Rattle.std.proofs.lemmas.List.{flat_map_more, map-append, take_more}
use Rattle.std.proofs.lemmas.List.Folds.{list_all-map, list_all_at, list_all_more}
use Rattle.press_pjl.specs.Variables.{is_assignment}
use Rattle.press_words.specs.Defaults.{default_line, prefix_of}

-- the texts of words
abbrev texts_of : List (Bor (List ℕ)) → List (List ℕ)
texts_of words = map (λ word. word.now) words

-- a word is an assignment
abbrev pub is_set : Bor (List ℕ) → Bool
is_set word = is_assignment word.now

-- each text is asked of by its word
assignments_by_words : (words : List (Bor (List ℕ))) → list_all is_assignment (map (λ word. word.now) words) ≡ list_all is_set words
assignments_by_words words = list_all-map is_assignment (λ word. word.now) words

-- one more, one that is none, and all
pub assignments-more : (words : List (Bor (List ℕ))) (i : ℕ) (other : Bor (List ℕ)) → i < length words → list_all is_set (take i words) ≡ true
    → is_assignment (get_or words i other).now ≡ true → list_all is_set (take (i + 1) words) ≡ true
assignments-more words i other inside so_far this = list_all_more is_set words i other inside ∙ rw (so_far, this) refl

pub assignments-none : (words : List (Bor (List ℕ))) (i : ℕ) (other : Bor (List ℕ)) → i < length words → is_assignment (get_or words i other).now ≡ false
    → false ≡ list_all is_assignment (map (λ word. word.now) words)
assignments-none words i other inside this = sym (assignments_by_words words ∙ list_all_at is_set words i other inside this)

pub assignments-all : (words : List (Bor (List ℕ))) (i : ℕ) → list_all is_set (take i words) ≡ true → take i words ≡ words
    → true ≡ list_all is_assignment (map (λ word. word.now) words)
assignments-all words i so_far all = sym (assignments_by_words words ∙ subst (λ (some : List (Bor (List ℕ))). list_all is_set some ≡ true) all so_far)

-- one line more
pub default_lines-more : (words : List (Bor (List ℕ))) (i : ℕ) (other : Bor (List ℕ)) (before after : List ℕ) → i < length words
    → before ≡ flat_map default_line (map (λ word. word.now) (take i words)) → after ≡ before ++ default_line (get_or words i other).now
    → after ≡ flat_map default_line (map (λ word. word.now) (take (i + 1) words))
default_lines-more words i other before after inside lines more =
    let word : Bor (List ℕ) = get_or words i other in
    let one : texts_of (take (i + 1) words) ≡ texts_of (take i words) ++ word.now ∷ [] =
    ap texts_of (take_more words i other inside) ∙ map-append (λ (word : Bor (List ℕ)). word.now) (take i words) (word ∷ []) in
    more ∙ ap (λ (bytes : List ℕ). bytes ++ default_line word.now) lines ∙ flat_map_more default_line [] (texts_of (take i words)) word.now
    ∙ ap (flat_map default_line) (sym one)

-- all lines, and the reset behind them
pub prefix_of-some : (words : List (Bor (List ℕ))) (lines prefix : List ℕ) → (length words == 0) ≡ false → lines ≡ flat_map default_line (map (λ word. word.now) words)
    → prefix ≡ lines ++ (codes "@PJL RESET" ++ 10 ∷ []) → prefix ≡ prefix_of (map (λ word. word.now) words)
prefix_of-some [] lines prefix some are is = absurd (true≢false some)
prefix_of-some (word ∷ words) lines prefix some are is = is ∙ ap (λ (bytes : List ℕ). bytes ++ (codes "@PJL RESET" ++ 10 ∷ [])) are
