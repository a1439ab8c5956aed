-- Breakpoints, and the table of their numbers.
use Rattle.std.specs.Prelude.{◌≡◌, ℕ, Bool, true, false, ◌==◌, ◌&&◌, nat_le, List, replicate, Option, Some, None, Result, Ok, Err, slice_get, slice_set}
use Rattle.std.specs.List.{position_from}
use Rattle.press_cmd.specs.declared.variant.Kind.{Kind}
use Rattle.press_cmd.specs.declared.variant.Kind.TheVariants as kinds
use Rattle.press_engine.specs.declared.machine.Last.{Last}
use Rattle.press_engine.specs.declared.machine.Last.TheVariants as lasts
use Rattle.press_engine.specs.declared.view.View.{View}
use Rattle.press_debug.specs.declared.breakpoints.Break.{Break}
use Rattle.press_debug.specs.declared.breakpoints.Break.TheVariants as breaks
use Rattle.press_debug.specs.declared.fault.BreakError.{BreakError}
use Rattle.press_debug.specs.declared.fault.BreakError.TheVariants as errors

abbrev pub most_breaks : ℕ
most_breaks = 32

abbrev pub no_breaks : List (Option Break)
no_breaks = replicate most_breaks None

-- whether two kinds are the same
abbrev pub same_group : Option ℕ → Option ℕ → Bool
same_group None None = true
same_group (Some one) (Some other) = one == other
same_group None (Some other) = false
same_group (Some one) None = false

abbrev pub same_kind : Kind → Kind → Bool
same_kind (kinds.Escape one) (kinds.Escape other) = one == other
same_kind (kinds.Param character group end) (kinds.Param other_character other_group other_end) =
    character == other_character && same_group group other_group && end == other_end
same_kind (kinds.Control one) (kinds.Control other) = one == other
same_kind (kinds.Text one) (kinds.Text other) = one == other
same_kind kinds.Broken kinds.Broken = true
same_kind kinds.Uel kinds.Uel = true
same_kind kinds.PjlLine kinds.PjlLine = true
same_kind (kinds.Foreign one) (kinds.Foreign other) = one == other
same_kind one other = false

-- whether the last step took a command of a kind, and did not record it
abbrev pub is_ran : Kind → Last → Bool
is_ran kind (lasts.Ran last) = same_kind last kind
is_ran kind (lasts.Refused last refusal) = same_kind last kind
is_ran kind (lasts.Recorded last) = false
is_ran kind lasts.Nothing = false

-- whether a state meets a breakpoint
abbrev pub meets : Break → View → Bool
meets (breaks.Kind kind) view = is_ran kind view.last
meets (breaks.Step step) view = view.step == step
meets (breaks.Sheets count) view = nat_le count view.sheets

abbrev pub meets_entry : Option Break → View → Bool
meets_entry None view = false
meets_entry (Some one) view = meets one view

-- the least number of a breakpoint that is met
abbrev pub met : List (Option Break) → View → Option ℕ
met table view = position_from (λ entry. meets_entry entry view) 0 table

abbrev pub is_free : Option Break → Bool
is_free None = true
is_free (Some one) = false

-- the lowest free number, if one is free
abbrev pub first_free : List (Option Break) → Option ℕ
first_free table = position_from is_free 0 table

-- A breakpoint was set at the lowest free number; or none was free, and nothing changed.
abbrev pub Sets : List (Option Break) → Break → Result ℕ BreakError → List (Option Break) → Type 0
Sets old one (Ok number) new = (first_free old ≡ Some number) × (new ≡ slice_set old number (Some one))
Sets old one (Err errors.TooMany) new = (first_free old ≡ None) × (new ≡ old)
Sets old one (Err errors.NoSuch) new = ⊥

-- whether a breakpoint stands at a number
abbrev pub is_set : Option (Option Break) → Bool
is_set (Some (Some one)) = true
is_set (Some None) = false
is_set None = false

abbrev pub stands : List (Option Break) → ℕ → Bool
stands table number = is_set (slice_get table number)

-- A number was freed; or no breakpoint stood there, and nothing changed.
abbrev pub Clears : List (Option Break) → ℕ → Result (Unit {0}) BreakError → List (Option Break) → Type 0
Clears old number (Ok _) new = (stands old number ≡ true) × (new ≡ slice_set old number None)
Clears old number (Err errors.NoSuch) new = (stands old number ≡ false) × (new ≡ old)
Clears old number (Err errors.TooMany) new = ⊥

-- the number of a refusal
abbrev pub refusal_number : BreakError → ℕ
refusal_number errors.TooMany = 501
refusal_number errors.NoSuch = 502
