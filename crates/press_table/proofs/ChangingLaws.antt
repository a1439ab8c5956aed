-- Commands that do no more than change the state.
use Rattle.std.proofs.Common.{◌≡◌, ◌∙◌, Option, Bool, true, false, IsTrue, refl, sym, ap, subst, arith}
use Rattle.press_cmd.specs.Token.{Token}
use Rattle.press_pattern.specs.declared.pattern.Pattern.{Pattern}
use Rattle.press_table.specs.declared.effect.Effect.{Effect}
use Rattle.press_table.specs.declared.effect.Source.{Source}
use Rattle.press_table.specs.declared.operation.Operation.{Operation}
use Rattle.press_table.specs.declared.refusal.Refusal.{Refusal}
use Rattle.press_table.specs.declared.state.State.{State}
use Rattle.press_table.specs.Changing.{IfTook, Leaves, RowOrStays, changed_if, is_plain, took}
use Rattle.press_table.specs.Effects.{effect_of}
use Rattle.press_table.specs.Filling.{fill_named}
use Rattle.press_table.specs.Outcome as rows
use Rattle.press_table.specs.Table.{table_row, works_in_overlay}
use Rattle.press_table.specs.Outcome.{Changes, MayAllocate}

-- the state that an effect leaves
abbrev state_of : rows.Effect → State
state_of (rows.Changes state) = state
state_of (rows.MayAllocate state) = state
state_of (rows.GivesReply reply state) = state
state_of (rows.Stays cause state) = state
state_of (rows.Closes cause state) = state
state_of (rows.Starts commands end state) = state

left-by : (effect : Effect) (state : State) → state_of (effect_of state effect) ≡ state
left-by effect state = grind arith

filled-leaves : (pattern : Option Pattern) (state new : State) → state_of (fill_named pattern state) ≡ new → Leaves (fill_named pattern state) new
filled-leaves pattern state new is = grind arith

pub fill_leaves : (pattern : Option Pattern) (state new : State) (effect : Effect) → effect_of new effect ≡ fill_named pattern state → Leaves (fill_named pattern state) new
fill_leaves pattern state new effect is = filled-leaves pattern state new (ap state_of (sym is) ∙ left-by effect new)

-- a row that sets fields, by whether it is taken
plain-works : (operation : Operation) → is_plain operation ≡ true → works_in_overlay operation ≡ true
plain-works operation is = grind arith

pub set-changes : (operation : Operation) (command : Token) (old new : State) (taken : Bool) (refusal : Option Refusal) → taken ≡ is_plain operation
    → (IsTrue taken → (source : Source) → table_row source operation command old ≡ Changes new) → (taken ≡ false → new ≡ old)
    → RowOrStays (took (changed_if taken refusal)) operation command old new
set-changes operation command old new true refusal plain changed same =
    (plain-works operation (sym plain), λ source. subst (λ effect. Leaves effect new) (sym (changed refl source)) refl)
set-changes operation command old new false refusal plain changed same = same refl

pub set-refuses : (taken : Bool) (refusal : Option Refusal) (known : Option Refusal → Type 0) → known refusal → IfTook (changed_if taken refusal) known
set-refuses true refusal known is = is
set-refuses false refusal known is = tt
