-- What the effects of the code stand for, beside the state.
use Rattle.std.specs.Prelude.{Bool, true, false}
use Rattle.press_table.specs.declared.effect.Effect.{Effect}
use Rattle.press_table.specs.declared.effect.Effect.TheVariants as effects
use Rattle.press_table.specs.declared.state.State.{State}
use Rattle.press_table.specs.Calls.{end_of}
use Rattle.press_table.specs.Outcome as rows

abbrev pub effect_of : State → Effect → rows.Effect
effect_of state effects.Changes = rows.Changes state
effect_of state effects.Makes = rows.MayAllocate state
effect_of state (effects.GivesReply reply) = rows.GivesReply reply state
effect_of state (effects.Stays cause) = rows.Stays cause state
effect_of state (effects.Closes cause) = rows.Closes cause state
effect_of state (effects.Starts body start) = rows.Starts body (end_of start state) state

-- whether all is done: nothing goes out, no page closes, and no body starts
abbrev pub is_done : Effect → Bool
is_done effects.Changes = true
is_done effects.Makes = true
is_done (effects.GivesReply reply) = false
is_done (effects.Stays cause) = false
is_done (effects.Closes cause) = false
is_done (effects.Starts body start) = false
