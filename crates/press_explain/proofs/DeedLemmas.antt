-- Texts of many things, one behind the other.
use Rattle.std.proofs.Common.{◌≡◌, ◌∙◌, ◌<◌, ◌≤◌, ◌+◌, ◌==◌, ℕ, Bool, false, if◌then◌else◌, Option, None, Some, refl, List, [], ◌∷◌, ◌++◌, length, map, take, get_or, ap, sym, append-nil}
use Rattle.std.specs.List.{flat_map}
use Rattle.std.specs.Prelude.{codes}
use Rattle.press_cmd.specs.Kinds.{kind_of}
use Rattle.press_cmd.specs.Token.{field_of, param_of}
use Rattle.press_cmd.specs.declared.variant.Kind.{Kind}
use Rattle.press_explain.specs.Remarks.{field_said, in_brackets, meaning_key, value_said}
use Rattle.press_explain.specs.Titles.{meanings, text_at}
use Rattle.std.proofs.lemmas.Grind.{flat_map-append}
use Rattle.std.proofs.lemmas.List.{append_assoc, map-append, take_all, take_more}

-- one more
pub flat_more : {X : Type 0} (f : X → List ℕ) (xs : List X) (i : ℕ) (x : X) (old text new : List ℕ) → i < length xs → get_or xs i x ≡ x
    → text ≡ old ++ flat_map f (take i xs) → new ≡ text ++ f x → new ≡ old ++ flat_map f (take (i + 1) xs)
flat_more f xs i x old text new inside is so_far appended =
    appended ∙ ap (λ all. all ++ f x) so_far ∙ append_assoc old (flat_map f (take i xs)) (f x)
    ∙ ap (λ all. old ++ (flat_map f (take i xs) ++ all)) (sym (append-nil (f x)))
    ∙ ap (λ all. old ++ all) (sym (flat_map-append f (take i xs) (x ∷ [])))
    ∙ ap (λ one. old ++ flat_map f (take i xs ++ one ∷ [])) (sym is)
    ∙ ap (λ all. old ++ flat_map f all) (sym (take_more xs i x inside))

-- all of them
pub flat_all : {X : Type 0} (f : X → List ℕ) (xs : List X) (i : ℕ) (old text : List ℕ) → length xs ≤ i → text ≡ old ++ flat_map f (take i xs) → text ≡ old ++ flat_map f xs
flat_all f xs i old text end so_far = so_far ∙ ap (λ all. old ++ flat_map f all) (take_all i xs end)

-- the same of single bytes
pub map_more : (f : ℕ → ℕ) (xs : List ℕ) (i x : ℕ) (old text new : List ℕ) → i < length xs → get_or xs i x ≡ x
    → text ≡ old ++ map f (take i xs) → new ≡ text ++ f x ∷ [] → new ≡ old ++ map f (take (i + 1) xs)
map_more f xs i x old text new inside is so_far appended =
    appended ∙ ap (λ all. all ++ f x ∷ []) so_far ∙ append_assoc old (map f (take i xs)) (f x ∷ [])
    ∙ ap (λ all. old ++ all) (sym (map-append f (take i xs) (x ∷ [])))
    ∙ ap (λ one. old ++ map f (take i xs ++ one ∷ [])) (sym is)
    ∙ ap (λ all. old ++ map f all) (sym (take_more xs i x inside))

pub map_all : (f : ℕ → ℕ) (xs : List ℕ) (i : ℕ) (old text : List ℕ) → length xs ≤ i → text ≡ old ++ map f (take i xs) → text ≡ old ++ map f xs
map_all f xs i old text end so_far = so_far ∙ ap (λ all. old ++ map f all) (take_all i xs end)

-- ---- texts one behind the other

pub two_said : (old one two x y : List ℕ) → one ≡ old ++ x → two ≡ one ++ y → two ≡ old ++ (x ++ y)
two_said old one two x y first second = second ∙ ap (λ all. all ++ y) first ∙ append_assoc old x y

pub three_said : (old one two three x y z : List ℕ) → one ≡ old ++ x → two ≡ one ++ y → three ≡ two ++ z → three ≡ old ++ (x ++ (y ++ z))
three_said old one two three x y z first second third =
    third ∙ ap (λ all. all ++ z) (two_said old one two x y first second) ∙ append_assoc old (x ++ y) z ∙ ap (λ all. old ++ all) (append_assoc x y z)

-- a field that is there
pub some_field : (kind : Kind) (field : List ℕ) (empty : Bool) → empty ≡ (length field == 0) → empty ≡ false
    → codes ": " ++ (field ++ in_brackets (text_at (meaning_key kind field) meanings)) ≡ field_said kind field
some_field kind field empty is none =
    ap (λ (nothing : Bool). if nothing then [] else codes ": " ++ (field ++ in_brackets (text_at (meaning_key kind field) meanings))) (sym none ∙ is)

-- the value of a parameter, with a group or without
pub param_value : (character : ℕ) (group : Option ℕ) (field : List ℕ) (end : ℕ) (payload : List ℕ)
    → value_said (param_of character group field end payload)
    ≡ field_said (kind_of (param_of character group field end payload)) (field_of (param_of character group field end payload))
param_value character None field end payload = refl
param_value character (Some group) field end payload = refl

pub four_said : (old one two three four x y z w : List ℕ) → one ≡ old ++ x → two ≡ one ++ y → three ≡ two ++ z → four ≡ three ++ w → four ≡ old ++ (x ++ (y ++ (z ++ w)))
four_said old one two three four x y z w first second third fourth =
    fourth ∙ ap (λ all. all ++ w) (three_said old one two three x y z first second third) ∙ append_assoc old (x ++ (y ++ z)) w
    ∙ ap (λ all. old ++ all) (append_assoc x (y ++ z) w ∙ ap (λ all. x ++ all) (append_assoc y z w))
