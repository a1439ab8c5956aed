-- Bodies that run, one in the other.
use Rattle.std.proofs.Common.{◌≢◌, ◌⊎◌, ◌≤◌, ◌+◌, arith, List, [], ◌∷◌, ◌++◌, length, inl, inr, refl}
use Rattle.press_cmd.specs.Token.{Token}
use Rattle.press_table.specs.Memory.{TakesMemory}
use Rattle.press_engine.specs.declared.activation.Activation.{Activation}
use Rattle.press_engine.specs.Machine.{StepResult}
use Rattle.press_engine.specs.Stack.{room_where, room_in, IsNested}
use Rattle.press_engine.specs.Stepping.{ended_by, unwind}
use Rattle.press_engine.proofs.CommandItems.{Taking, begins_at, effect_at, command-all}

-- At most four run.
few : (activations : List Activation) → IsNested activations → length activations + room_in activations ≤ 4
few [] nested = omega arith
few (activation ∷ activations) nested = let outer = few activations nested.1 in let less = nested.0 in omega (arith, outer, less)

pub few-bodies : (activations : List Activation) → IsNested activations → length activations ≤ 4
few-bodies activations nested = let all = few activations nested in omega (arith, all)

-- the bodies that still run after a step are nested as before it
ended-nested : (body : List Token) (activations : List Activation) (activation : Activation)
    → ((item : StepResult) → IsNested (unwind activations item).activations) → (item : StepResult) → IsNested (activation ∷ activations)
    → IsNested (ended_by body activations activation (unwind activations) item).activations
ended-nested body activations activation outer item nested = grind arith

pub unwind-nested : (activations : List Activation) (item : StepResult) → IsNested activations → IsNested (unwind activations item).activations
unwind-nested [] item nested = nested
unwind-nested (activation ∷ activations) item nested = ended-nested activation.body activations activation (λ item. unwind-nested activations item nested.1) item nested

-- a body that a command starts has less room than what is round it
pub begins-nested : (at : Taking) (activations : List Activation) → IsNested activations → room_where at.in_overlay at.levels ≤ room_in activations
    → IsNested ((begins_at at).started ++ activations)
begins-nested at activations nested small =
    command-all (λ at begin items. room_where at.in_overlay at.levels ≤ room_in activations → IsNested (begin.started ++ activations)) (λ at item is small. nested)
    (λ at item activation starts inside small. (let less = starts.room in omega (arith, less, small), nested)) at small

-- where something goes out at the beginning of a step, or a body starts, the command takes memory
pub begins-wants : (at : Taking) → ((begins_at at).item.outputs ≢ []) ⊎ ((begins_at at).started ≢ []) → TakesMemory (effect_at at)
begins-wants =
    command-all (λ at begin items. (begin.item.outputs ≢ []) ⊎ (begin.started ≢ []) → TakesMemory (effect_at at))
    (λ at item is some. elim some [ inl out ↦ is.memory out | inr none ↦ absurd (none refl) ])
    (λ at item activation starts inside some. starts.effect.memory)
