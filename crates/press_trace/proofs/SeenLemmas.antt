-- The fields that are told as members of their groups.
use Rattle.std.proofs.Common.{◌≡◌, ◌∙◌, ◌||◌, ℕ, List, [], ◌∷◌, ◌++◌, Bool, true, false, cond, map, Option, None, Some, refl, sym, ap, is_some, arith}
use Rattle.std.specs.Prelude.{nat_lt}
use Rattle.std.specs.List.{list_all, list_any}
use Rattle.serde_json.specs.Data.{Data, object, Members, no_members}
use Rattle.serde_json.specs.Written.{compact_text}
use Rattle.press_engine.specs.declared.view.View.{View}
use Rattle.press_trace.specs.declared.fields.Field.{Field}
use Rattle.press_trace.specs.declared.fields.Group.{Group}
use Rattle.press_trace.specs.Fields.{key_of, told_by, group_word, fields_of, all_groups}
use Rattle.press_trace.specs.Lines.{view_object}
use Rattle.press_trace.specs.Seen.{is_told, told_fields, told_groups, view_told, object_if, put_some, tells_some, field_slot, group_told, group_slot}
use Rattle.press_trace.specs.Slots.{members_of, texts_of}
use Rattle.press_trace.specs.Texts.{text_of}
use Rattle.press_trace.specs.Told.{data_of}
use Rattle.press_trace.proofs.TextLemmas.{ascii_text}
use Rattle.press_trace.proofs.SlotLemmas.{Ascend, put_all, put_in_order, object_text}

-- ---- words are of ASCII

abbrev is_ascii : List ℕ → Bool
is_ascii = list_all (λ byte. nat_lt byte 128)

field_is_ascii : (field : Field) → is_ascii (key_of field) ≡ true
field_is_ascii field = grind arith

pub field_ascii : (field : Field) → text_of (key_of field) ≡ key_of field
field_ascii field = ascii_text (key_of field) (field_is_ascii field)

-- ---- the fields of a group, and the groups, which stand in the order of their words

-- a field that is told, and one that is not
fields_put : (before : Option View) (now : View) (fields : List Field) (members : Members)
    → told_fields before now fields members ≡ put_all (map (field_slot before now) fields) members
fields_put before now [] others = refl
fields_put before now (field ∷ fields) others =
    grind (arith, fields_put before now fields (put_some (key_of field) (field_slot before now field).1 others))

group_ascends : (before : Option View) (now : View) (group : Group) → Ascend [] (map (field_slot before now) (fields_of group))
group_ascends before now group = grind arith

fields_are : (before : Option View) (now : View) (group : Group)
    → told_fields before now (fields_of group) no_members ≡ members_of (map (field_slot before now) (fields_of group))
fields_are before now group =
    fields_put before now (fields_of group) no_members ∙ put_in_order [] (map (field_slot before now) (fields_of group)) (group_ascends before now group)

groups_put : (before : Option View) (now : View) (groups : List Group) (members : Members)
    → told_groups before now groups members ≡ put_all (map (group_slot before now) groups) members
groups_put before now [] others = refl
groups_put before now (group ∷ groups) others = groups_put before now groups (put_some (group_word group) (group_slot before now group).1 others)

groups_are : (before : Option View) (now : View) → view_told before now ≡ members_of (map (group_slot before now) all_groups)
groups_are before now =
    groups_put before now all_groups no_members
    ∙ put_in_order [] (map (group_slot before now) all_groups) (refl, (refl, (refl, (refl, (refl, (refl, (refl, (refl, (refl, tt)))))))))

-- the text of a group's object
pub fields_text : (before : Option View) (now : View) (group : Group)
    → 123 ∷ (texts_of false (map (field_slot before now) (fields_of group)) ++ 125 ∷ []) ≡ compact_text (object (told_fields before now (fields_of group) no_members))
fields_text before now group =
    sym (object_text (map (field_slot before now) (fields_of group))) ∙ ap (λ members. compact_text (object members)) (sym (fields_are before now group))

-- ---- an object is there where one of its members is

abbrev are_some : List (List ℕ × Option Data) → Bool
are_some slots = list_any (λ slot. is_some slot.1) slots

object_there : (slots : List (List ℕ × Option Data)) → object_if (members_of slots) ≡ cond (are_some slots) (Some (object (members_of slots))) None
object_there [] = refl
object_there ((key, None) ∷ slots) = object_there slots
object_there ((key, Some value) ∷ slots) = refl

fields_some : (before : Option View) (now : View) (fields : List Field) → are_some (map (field_slot before now) fields) ≡ list_any (is_told before now) fields
fields_some before now [] = refl
fields_some before now (field ∷ fields) = λ i. one (is_told before now field) i || fields_some before now fields i
  where
    one : (told : Bool) → is_some (cond told (Some (data_of (told_by field now))) None) ≡ told
    one told = grind arith

-- what a group is as a member
group_there : (before : Option View) (now : View) (group : Group)
    → group_told before now group ≡ cond (tells_some before now group) (Some (object (told_fields before now (fields_of group) no_members))) None
group_there before now group = grind (arith, object_there, fields_some, fields_are)

groups_some : (before : Option View) (now : View) (groups : List Group) → are_some (map (group_slot before now) groups) ≡ list_any (tells_some before now) groups
groups_some before now [] = refl
groups_some before now (group ∷ groups) =
    λ i. (ap is_some (group_there before now group) ∙ one (tells_some before now group)) i || groups_some before now groups i
  where
    one : (told : Bool) → is_some (cond told (Some (object (told_fields before now (fields_of group) no_members))) None) ≡ told
    one told = grind arith

-- the text of the object of all groups
pub view_text : (before : Option View) (now : View)
    → 123 ∷ (texts_of false (map (group_slot before now) all_groups) ++ 125 ∷ []) ≡ compact_text (object (view_told before now))
view_text before now = search (arith, object_text, groups_are)

-- what can be seen as a member
view_there : (before : Option View) (now : View)
    → view_object before now ≡ cond (list_any (tells_some before now) all_groups) (Some (object (view_told before now))) None
view_there before now = search (arith, groups_are, object_there, groups_some)

-- where no field of a group is told, and where one is; and so of all groups
pub group_none : (before : Option View) (now : View) (group : Group) → tells_some before now group ≡ false → group_told before now group ≡ None
group_none before now group none = grind arith

pub group_some : (before : Option View) (now : View) (group : Group) → tells_some before now group ≡ true
    → group_told before now group ≡ Some (object (told_fields before now (fields_of group) no_members))
group_some before now group some = grind (arith, group_there)

pub view_none : (before : Option View) (now : View) → list_any (tells_some before now) all_groups ≡ false → view_object before now ≡ None
view_none before now none = view_there before now ∙ ap (λ some. cond some (Some (object (view_told before now))) None) none

pub view_some : (before : Option View) (now : View) → list_any (tells_some before now) all_groups ≡ true → view_object before now ≡ Some (object (view_told before now))
view_some before now some = view_there before now ∙ ap (λ some. cond some (Some (object (view_told before now))) None) some
