-- Members that are put are those of a list, and their text is the list's.
use Rattle.std.proofs.Common.{◌≡◌, ◌∙◌, ◌&&◌, Ordering, Less, Equal, Greater, ℕ, suc, List, [], ◌∷◌, ◌++◌, Bool, true, false, take, drop, Option, None, Some, refl, sym, ap, append_assoc, append-nil, arith}
use Rattle.std.proofs.lemmas.Bool.{and_parts}
use Rattle.std.specs.Cmp.Lexicographic.{slice_cmp}
use Rattle.std.specs.Ordering.{nat_cmp, match_ordering}
use Rattle.serde_json.specs.Data.{Data, object, Members, member, put}
use Rattle.serde_json.specs.Written.{compact_text, members_text}
use Rattle.press_trace.specs.Seen.{put_some}
use Rattle.press_trace.specs.Slots.{members_of, member_text, texts_behind, texts_of}

abbrev is_greater : Ordering → Bool
is_greater Less = false
is_greater Equal = false
is_greater Greater = true

abbrev is_less : Ordering → Bool
is_less Less = true
is_less Equal = false
is_less Greater = false

greater : (o : Ordering) → is_greater o ≡ true → o ≡ Greater
greater o is = grind arith

-- all keys of these stand before this one, or behind it
abbrev pub are_before : List ℕ → List (List ℕ × Option Data) → Bool
are_before key [] = true
are_before key (slot ∷ slots) = is_greater (slice_cmp nat_cmp key slot.0) && are_before key slots

abbrev pub are_behind : List ℕ → List (List ℕ × Option Data) → Bool
are_behind key [] = true
are_behind key (slot ∷ slots) = is_less (slice_cmp nat_cmp key slot.0) && are_behind key slots

-- a member that is put goes in front of those whose keys stand behind its own
put_front : (key : List ℕ) (value : Data) (slots : List (List ℕ × Option Data)) → are_behind key slots ≡ true → put key value (members_of slots) ≡ member key value (members_of slots)
put_front key value [] behind = refl
put_front key value ((k, None) ∷ slots) behind = put_front key value slots (and_parts (is_less (slice_cmp nat_cmp key k)) (are_behind key slots) behind).1
put_front key value ((k, Some d) ∷ slots) behind = grind arith

-- and takes the place of its slot
put_slot : (key : List ℕ) (value : Data) (slots others : List (List ℕ × Option Data)) → are_before key slots ≡ true → are_behind key others ≡ true
    → put key value (members_of (slots ++ (key, None) ∷ others)) ≡ members_of (slots ++ (key, Some value) ∷ others)
put_slot key value [] others before behind = put_front key value others behind
put_slot key value ((k, None) ∷ slots) others before behind =
    put_slot key value slots others (and_parts (is_greater (slice_cmp nat_cmp key k)) (are_before key slots) before).1 behind
put_slot key value ((k, Some d) ∷ slots) others before behind =
    let parts = and_parts (is_greater (slice_cmp nat_cmp key k)) (are_before key slots) before in
    ap (λ o. match_ordering o (member key value (member k d (members_of (slots ++ (key, None) ∷ others)))) (member k value (members_of (slots ++ (key, None) ∷ others)))
    (member k d (put key value (members_of (slots ++ (key, None) ∷ others))))) (greater (slice_cmp nat_cmp key k) parts.0)
    ∙ ap (member k d) (put_slot key value slots others parts.1 behind)

-- the member of slot n of a list, if it is there
pub put_at : (n : ℕ) (key : List ℕ) (value : Option Data) (all : List (List ℕ × Option Data)) → are_before key (take n all) ≡ true → are_behind key (drop (suc n) all) ≡ true
    → put_some key value (members_of (take n all ++ (key, None) ∷ drop (suc n) all)) ≡ members_of (take n all ++ (key, value) ∷ drop (suc n) all)
put_at n key value all before behind = grind (arith, put_slot)

-- ---- members that are put in the order of their keys

-- those of a list, one after another
abbrev pub put_all : List (List ℕ × Option Data) → Members → Members
put_all [] members = members
put_all (slot ∷ slots) members = put_all slots (put_some slot.0 slot.1 members)

-- each key stands behind those before it
abbrev pub Ascend : (slots others : List (List ℕ × Option Data)) → Type 0
Ascend slots [] = Unit {0}
Ascend slots (slot ∷ others) = (are_before slot.0 slots ≡ true) × Ascend (slots ++ slot ∷ []) others

-- one that is not there, behind others
not_there : (key : List ℕ) (slots : List (List ℕ × Option Data)) → members_of slots ≡ members_of (slots ++ (key, None) ∷ [])
not_there key [] = refl
not_there key ((k, None) ∷ slots) = not_there key slots
not_there key ((k, Some value) ∷ slots) = ap (member k value) (not_there key slots)

put_last : (slot : List ℕ × Option Data) (slots : List (List ℕ × Option Data)) → are_before slot.0 slots ≡ true
    → put_some slot.0 slot.1 (members_of slots) ≡ members_of (slots ++ slot ∷ [])
put_last (key, None) slots before = not_there key slots
put_last (key, Some value) slots before = ap (put key value) (not_there key slots) ∙ put_slot key value slots [] before refl

pub put_in_order : (slots others : List (List ℕ × Option Data)) → Ascend slots others → put_all others (members_of slots) ≡ members_of (slots ++ others)
put_in_order slots [] ascend = ap members_of (sym (append-nil slots))
put_in_order slots (slot ∷ others) ascend = grind (arith, put_last, append_assoc, put_in_order (slots ++ slot ∷ []) others ascend.1)

-- ---- their text

pub members_text_of : (later : Bool) (slots : List (List ℕ × Option Data)) → members_text later (members_of slots) ≡ texts_of later slots ++ 125 ∷ []
members_text_of later [] = refl
members_text_of later ((key, None) ∷ slots) = members_text_of later slots
members_text_of later ((key, Some value) ∷ slots) = grind (arith, append_assoc, members_text_of true slots)

pub object_text : (slots : List (List ℕ × Option Data)) → compact_text (object (members_of slots)) ≡ 123 ∷ (texts_of false slots ++ 125 ∷ [])
object_text slots = ap (λ text. 123 ∷ text) (members_text_of false slots)

-- behind a member each stands behind a comma
pub texts_true : (slots : List (List ℕ × Option Data)) → texts_of true slots ≡ texts_behind slots
texts_true [] = refl
texts_true ((key, None) ∷ slots) = texts_true slots
texts_true ((key, Some value) ∷ slots) = ap (λ text. member_text true key (Some value) ++ text) (texts_true slots)

pub texts_joined : (slots others : List (List ℕ × Option Data)) → texts_behind (slots ++ others) ≡ texts_behind slots ++ texts_behind others
texts_joined [] others = refl
texts_joined (slot ∷ slots) others = grind (arith, append_assoc, texts_joined slots others)
