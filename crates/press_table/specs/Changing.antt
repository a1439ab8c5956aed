-- Commands that do no more than change the state.
use Rattle.std.specs.Prelude.{◌≡◌, Bool, true, false, Option, ⊤}
use Rattle.press_units.specs.declared.value.Value.{Value}
use Rattle.press_cmd.specs.Token.{Token}
use Rattle.press_table.specs.declared.changing.Changed.{Changed}
use Rattle.press_table.specs.declared.changing.Changed.TheVariants as changed
use Rattle.press_table.specs.declared.effect.Source.{Source}
use Rattle.press_table.specs.declared.operation.Operation.{Operation}
use Rattle.press_table.specs.declared.operation.Operation.TheVariants as operations
use Rattle.press_table.specs.declared.refusal.Refusal.{Refusal}
use Rattle.press_table.specs.declared.state.State.{State}
use Rattle.press_table.specs.Outcome.{Effect, Changes, MayAllocate}
use Rattle.press_table.specs.Table.{is_recorded, is_relative, effect_on, works_in_overlay, table_row, value_of}

-- an effect leaves this state, and nothing goes out, no page closes, and no body starts
abbrev pub Leaves : Effect → State → Type 0
Leaves (Changes state) new = state ≡ new
Leaves (MayAllocate state) new = state ≡ new
Leaves other new = ⊥

-- whether a command was taken; and what is known of why it is refused, where it was
abbrev pub took : Changed → Bool
took changed.Other = false
took (changed.Took refusal) = true

abbrev pub IfTook : Changed → (Option Refusal → Type 0) → Type 0
IfTook changed.Other known = ⊤
IfTook (changed.Took refusal) known = known refusal

abbrev pub changed_if : (taken : Bool) → Option Refusal → Changed
changed_if true refusal = changed.Took refusal
changed_if false refusal = changed.Other

-- the value of a command: its number, and whether a sign stood in it
pub record IsValueOf (command : Token) (value : Value) : Type 0 where
  pub number : value.tenthousandths ≡ value_of command
  pub sign : value.signed ≡ is_relative command

-- A command is not recorded, and does no more than change the state, wherever it comes from.
pub record OnlyChanges (command : Token) (old new : State) : Type 0 where
  pub carried_out : is_recorded command old ≡ false
  pub changes : (source : Source) → Leaves (effect_on source command old) new

-- It did that; or it is another, and nothing changed.
abbrev pub ChangesOrStays : (changes : Bool) → Token → (old new : State) → Type 0
ChangesOrStays true command old new = OnlyChanges command old new
ChangesOrStays false command old new = new ≡ old

-- the same of a row, which has effect in an overlay, too
abbrev pub RowOrStays : (changes : Bool) → Operation → Token → (old new : State) → Type 0
RowOrStays true operation command old new =
    (works_in_overlay operation ≡ true) × ((source : Source) → Leaves (table_row source operation command old) new)
RowOrStays false operation command old new = new ≡ old

-- the rows that do no more, whatever the value is
abbrev pub is_plain : Operation → Bool
is_plain operations.CarriageReturn = false
is_plain operations.LineFeed = false
is_plain operations.FormFeed = false
is_plain operations.HalfLineFeed = false
is_plain operations.Reset = false
is_plain operations.SelectPageSide = false
is_plain operations.SelectPageSize = false
is_plain operations.EjectPage = false
is_plain operations.SelectOrientation = false
is_plain operations.SelectDuplex = false
is_plain operations.Fill = false
is_plain operations.DefinePattern = false
is_plain operations.TransferRow = false
is_plain operations.ControlMacro = false
is_plain operations.JobLanguage = false
is_plain other = true
