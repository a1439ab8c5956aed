-- The store of macros (PCL 5 Printer Language Technical Reference Manual, "Macros": Macro ID and Macro Control commands).
use Rattle.std.specs.Prelude.{ℕ, List, [], ◌∷◌, ◌++◌, Bool, Option, Some, None, option_map}
use Rattle.std.specs.FinMap as maps
use Rattle.press_store.specs.Things.{Things, found, stored, made, permanent_only}
use Rattle.press_cmd.specs.Token.{Token}

-- A macro definition that was begun and has not ended: the macro ID, and the commands recorded so far.
pub record Definition : Type 0 where
  pub id : ℕ
  pub commands : List Token

-- The macros under their IDs, each the commands that were recorded, in order; and the definition that is open, if one is.
pub record Macros : Type 0 where
  pub stored : Things (List Token)
  pub definition : Option Definition

-- No macro, and no open definition.
abbrev pub no_macros : Macros
no_macros = record { stored = maps.empty; definition = None }

-- The ID of the open definition, if one is open.
abbrev pub defining : Macros → Option ℕ
defining macros = option_map (λ d. d.id) macros.definition

-- Value 0 of the Macro Control command begins a definition. An older macro stays until the definition ends.
abbrev pub definition_begun : Macros → (id : ℕ) → Macros
definition_begun macros id = record { stored = macros.stored; definition = Some (record { id = id; commands = [] }) }

-- A definition with one more command, the last.
abbrev pub with_command : Definition → Token → Definition
with_command d command = record { id = d.id; commands = d.commands ++ command ∷ [] }

-- While a definition is open, commands are recorded.
abbrev pub recorded : Macros → Token → Macros
recorded macros command =
    record { stored = macros.stored; definition = option_map (λ d. with_command d command) macros.definition }

-- With the macro of a definition under its ID, in place of an older one. It is temporary.
abbrev pub with_macro_of : Option Definition → Things (List Token) → Things (List Token)
with_macro_of None things = things
with_macro_of (Some d) things = stored things d.id d.commands

-- Value 1 ends the definition.
abbrev pub definition_ended : Macros → Macros
definition_ended macros = record { stored = with_macro_of macros.definition macros.stored; definition = None }

-- A printer reset or a universal exit drops an open definition. The older macro stays.
abbrev pub abandoned : Macros → Macros
abandoned macros = record { stored = macros.stored; definition = None }

-- The commands of the macro under this ID, if there is one.
abbrev pub body_of : Macros → (id : ℕ) → Option (List Token)
body_of macros id = found macros.stored id

-- Value 6 deletes all macros.
abbrev pub all_deleted : Macros → Macros
all_deleted macros = record { stored = maps.empty; definition = macros.definition }

-- Value 7 deletes the temporary macros.
abbrev pub permanent_macros : Macros → Macros
permanent_macros macros = record { stored = permanent_only macros.stored; definition = macros.definition }

-- Value 8 deletes the macro under this ID.
abbrev pub without : Macros → (id : ℕ) → Macros
without macros id = record { stored = maps.remove macros.stored id; definition = macros.definition }

-- Values 9 and 10 make the macro under this ID, if there is one, temporary and permanent.
abbrev pub macro_made : Macros → (id : ℕ) → (permanent : Bool) → Macros
macro_made macros id permanent = record { stored = made macros.stored id permanent; definition = macros.definition }
