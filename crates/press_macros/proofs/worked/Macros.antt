-- Definitions, control commands and bodies of macros, computed.
use Rattle.std.proofs.Common.{◌≡◌, ℕ, [], ◌∷◌, Some, None, true, false, refl, ◌∙◌, rules}
use Rattle.std.specs.FinMap as maps
use Rattle.std.specs.FinMap.{gets}
use Rattle.press_cmd.specs.Token.{Control, Text}
use Rattle.press_macros.specs.Macros.{Macros, no_macros, defining, definition_begun, recorded, definition_ended, abandoned, body_of, macro_made, without, permanent_macros}
use Rattle.press_store.specs.Things.{is_permanent}
use Rattle.press_store.proofs.StoreLemmas.{found-permanent_only}

-- a macro that was defined under an ID, with one control byte
abbrev defined : Macros → ℕ → ℕ → Macros
defined macros id byte = definition_ended (recorded (definition_begun macros id) (Control byte))

-- macro 1 is permanent, macro 2 temporary
abbrev two : Macros
two = macro_made (defined (defined no_macros 1 10) 2 13) 1 true

pub commands_stay_in_order :
    body_of (definition_ended (recorded (recorded (definition_begun no_macros 7) (Text 65)) (Control 12))) 7 ≡ Some (Text 65 ∷ Control 12 ∷ [])
commands_stay_in_order = grind (gets, rules)

-- the older macro is there until the definition ends
pub the_older_one_while_defining : body_of (recorded (definition_begun two 1) (Control 12)) 1 ≡ Some (Control 10 ∷ [])
the_older_one_while_defining = grind (gets, rules)

pub a_dropped_definition : body_of (abandoned (recorded (definition_begun two 1) (Control 12))) 1 ≡ Some (Control 10 ∷ [])
a_dropped_definition = grind (gets, rules)

pub the_open_definition : defining (recorded (definition_begun two 1) (Control 12)) ≡ Some 1
the_open_definition = refl

pub permanent_one : is_permanent (maps.get two.stored 1) ≡ true
permanent_one = grind (gets, rules)

-- a permanent macro that is defined again is temporary
pub redefined : maps.get (defined two 1 12).stored 1 ≡ Some (record { value = Control 12 ∷ []; permanent = false })
redefined = grind (gets, rules)

pub permanent_stays : body_of (permanent_macros two) 1 ≡ Some (Control 10 ∷ [])
permanent_stays = found-permanent_only two.stored 1 ∙ grind (gets, rules)

pub temporary_goes : body_of (permanent_macros two) 2 ≡ None
temporary_goes = found-permanent_only two.stored 2 ∙ grind (gets, rules)

pub one_deleted : body_of (without two 1) 1 ≡ None
one_deleted = grind (gets, rules)

pub the_other_stays : body_of (without two 1) 2 ≡ Some (Control 13 ∷ [])
the_other_stays = grind (gets, rules)

pub unknown_one : macro_made two 3 true ≡ two
unknown_one = grind (gets, rules)
