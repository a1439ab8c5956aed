-- Rows of patterns (PCL 5 Printer Language Technical Reference Manual, "The PCL Print Model": Define Pattern, Pattern Control
-- and Select Current Pattern commands).
use Rattle.std.specs.Prelude.{ℕ, ℤ, Bool, true, false, ◌&&◌, is_some, if◌then◌else◌, List, [], ◌∷◌, Option, Some, None}
use Rattle.std.specs.FinMap as maps
use Rattle.press_page.specs.Numbers.{named}
use Rattle.press_store.specs.Things.{made, permanent_only}
use Rattle.press_pattern.specs.Store.{UserPatterns, tile_of, with_definition}
use Rattle.press_pattern.specs.UserData.{has_header, has_rows}
use Rattle.press_pattern.specs.declared.pattern.PatternKind.{PatternKind}
use Rattle.press_pattern.specs.declared.pattern.PatternKind.TheVariants as kinds
use Rattle.press_pattern.specs.declared.pattern.Pattern.{Pattern}
use Rattle.press_table.specs.declared.pattern_control.PatternControl.{PatternControl}
use Rattle.press_table.specs.declared.pattern_control.PatternControl.TheVariants as controls
use Rattle.press_table.specs.declared.state.State.{State}
use Rattle.press_table.specs.Drawing.{solid_black_pattern}
use Rattle.press_table.specs.Outcome.{Effect, Changes, MayAllocate}

-- the kind of pattern that a number names, of ESC*v#T and ESC*c#P
abbrev pub kind_of_number : ℤ → Option PatternKind
kind_of_number =
    named ((0, kinds.Black) ∷ (1, kinds.White) ∷ (2, kinds.Shading) ∷ (3, kinds.CrossHatch) ∷ (4, kinds.User) ∷ [])

-- whether there is a pattern
abbrev pub exists : Pattern → State → Bool
exists pattern state = is_some (tile_of state.patterns pattern.kind pattern.id)

-- the pattern of a kind under the pattern ID of now; the solid ones have none
abbrev pub pattern_of_kind : PatternKind → State → Pattern
pattern_of_kind kinds.Black state = solid_black_pattern
pattern_of_kind kinds.White state = record { kind = kinds.White; id = 0 }
pattern_of_kind kinds.Shading state = record { kind = kinds.Shading; id = state.drawing.pattern_id }
pattern_of_kind kinds.CrossHatch state = record { kind = kinds.CrossHatch; id = state.drawing.pattern_id }
pattern_of_kind kinds.User state = record { kind = kinds.User; id = state.drawing.pattern_id }

-- The pattern that marks are painted with: the current one; where that is a user-defined one that is gone, solid black.
abbrev pub pattern_now : State → Pattern
pattern_now state = if exists state.drawing.pattern state then state.drawing.pattern else solid_black_pattern

-- ESC*v#T, select current pattern; one that does not exist is not selected
abbrev pub select : Pattern → State → State
select pattern state =
    if exists pattern state then record state { drawing = record state.drawing { pattern = pattern } } else state

abbrev pub select_kind : Option PatternKind → State → State
select_kind None state = state
select_kind (Some kind) state = select (pattern_of_kind kind state) state

abbrev pub select_pattern : (number : ℤ) → State → State
select_pattern number state = select_kind (kind_of_number number) state

-- ESC*c#W, define pattern, under the pattern ID; data that stands for no pattern has no effect
abbrev pub define_pattern : List ℕ → State → Effect
define_pattern bytes state =
    if has_header bytes && has_rows bytes
    then MayAllocate (record state { patterns = with_definition state.patterns state.drawing.pattern_id bytes })
    else Changes state

-- ESC*c#Q, pattern control
abbrev pub pattern_control_of : ℤ → Option PatternControl
pattern_control_of =
    named
    ((0, controls.DeleteAll) ∷ (1, controls.DeleteTemporary) ∷ (2, controls.Delete) ∷ (4, controls.MakeTemporary) ∷ (5, controls.MakePermanent)
    ∷ [])

abbrev pub pattern_controlled : PatternControl → (id : ℕ) → UserPatterns → UserPatterns
pattern_controlled controls.DeleteAll id patterns = maps.empty
pattern_controlled controls.DeleteTemporary id patterns = permanent_only patterns
pattern_controlled controls.Delete id patterns = maps.remove patterns id
pattern_controlled controls.MakeTemporary id patterns = made patterns id false
pattern_controlled controls.MakePermanent id patterns = made patterns id true

abbrev pub pattern_control_with : Option PatternControl → State → State
pattern_control_with None state = state
pattern_control_with (Some control) state =
    record state { patterns = pattern_controlled control state.drawing.pattern_id state.patterns }

abbrev pub control_patterns : (number : ℤ) → State → State
control_patterns number state = pattern_control_with (pattern_control_of number) state
