-- What is told of what can be seen: the fields that tell something else than before.
use Rattle.std.specs.Prelude.{◌≡◌, Bool, true, not, List, ℕ, [], ◌∷◌, Option, Some, None, if◌then◌else◌}
use Rattle.std.specs.List.{list_any}
use Rattle.serde_json.specs.Data.{Data, object, Members, no_members, member, put}
use Rattle.press_engine.specs.declared.view.View.{View}
use Rattle.press_trace.specs.declared.fields.Field.{Field}
use Rattle.press_trace.specs.declared.fields.Group.{Group}
use Rattle.press_trace.specs.declared.seen.Seen.{Seen}
use Rattle.press_trace.specs.Fields.{key_of, told_by, group_word, fields_of, all_groups}
use Rattle.press_trace.specs.Told.{is_same, data_of}

-- what was kept of a view
pub record IsAlike (seen : Seen) (view : View) : Type 0 where
  pub fields : view ≡ record seen.view { stack = view.stack }
  pub pushed : view.stack.now ≡ seen.pushed.items

-- the same, where something was kept
abbrev pub IsAlikeIf : Option Seen → Option View → Type 0
IsAlikeIf None None = Unit {0}
IsAlikeIf (Some seen) (Some view) = IsAlike seen view
IsAlikeIf seen view = ⊥

-- Whether a field is told: it tells something else than before, or there is nothing before.
abbrev pub is_told : Option View → View → Field → Bool
is_told None now field = true
is_told (Some before) now field = not (is_same (told_by field before) (told_by field now))

-- whether some field of a group is told
abbrev pub tells_some : Option View → View → Group → Bool
tells_some before now group = list_any (is_told before now) (fields_of group)

-- The fields that are told, put to these members.
abbrev pub told_fields : Option View → View → List Field → Members → Members
told_fields before now [] members = members
told_fields before now (field ∷ fields) members =
    told_fields before now fields
    (if is_told before now field then put (key_of field) (data_of (told_by field now)) members else members)

-- an object of members, if there are any; and a member that is there
abbrev pub object_if : Members → Option Data
object_if no_members = None
object_if (member key value others) = Some (object (member key value others))

abbrev pub put_some : List ℕ → Option Data → Members → Members
put_some key None members = members
put_some key (Some value) members = put key value members

-- the objects of groups
abbrev pub told_groups : Option View → View → List Group → Members → Members
told_groups before now [] members = members
told_groups before now (group ∷ groups) members =
    told_groups before now groups
    (put_some (group_word group) (object_if (told_fields before now (fields_of group) no_members)) members)

-- What is told of what can be seen now, where it was so before.
abbrev pub view_told : Option View → View → Members
view_told before now = told_groups before now all_groups no_members

-- a field as a member that is there or not, and so a group
abbrev pub field_slot : Option View → View → Field → List ℕ × Option Data
field_slot before now field = (key_of field, if is_told before now field then Some (data_of (told_by field now)) else None)

abbrev pub group_told : Option View → View → Group → Option Data
group_told before now group = object_if (told_fields before now (fields_of group) no_members)

abbrev pub group_slot : Option View → View → Group → List ℕ × Option Data
group_slot before now group = (group_word group, group_told before now group)
