-- Commands of the stream that have no effect.
use Rattle.std.specs.Prelude.{◌≡◌, ℕ, Some}
use Rattle.press_cmd.specs.Token.{Token, Control, Text, ForeignByte}
use Rattle.press_table.specs.declared.effect.Source.TheVariants.{Stream}
use Rattle.press_table.specs.declared.state.State.{State}
use Rattle.press_table.specs.Outcome.{Changes}
use Rattle.press_table.specs.Refusals.{refusal_of, skipped_by}
use Rattle.press_table.specs.Table.{effect_on}

-- a command of the stream is not recorded, and changes nothing: HP-GL/2 skips it, or it has no row
abbrev pub HasNoEffect : State → Token → Type 0
HasNoEffect state command = (effect_on Stream command state ≡ Changes state) × (refusal_of Stream command state ≡ Some (skipped_by state))

-- text bytes and bytes of another language have none
pub record SkipsBytes (state : State) : Type 0 where
  pub text : (byte : ℕ) → HasNoEffect state (Text byte)
  pub foreign : (byte : ℕ) → HasNoEffect state (ForeignByte byte)

-- nor have control bytes
abbrev pub SkipsControls : State → Type 0
SkipsControls state = (byte : ℕ) → HasNoEffect state (Control byte)
