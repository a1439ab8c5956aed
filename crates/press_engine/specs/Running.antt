-- Bodies that run and go on by commands that do no more than change the machine (PCL 5 Printer Language Technical Reference Manual,
-- "Macros").
use Rattle.std.specs.Prelude.{◌≡◌, List, [], ◌∷◌, ◌++◌, Option, Some, None}
use Rattle.press_cmd.specs.Token.{Token}
use Rattle.press_table.specs.declared.effect.Effect.{Effect}
use Rattle.press_table.specs.Memory.{TakesMemory}
use Rattle.press_engine.specs.declared.activation.Activation.{Activation}
use Rattle.press_engine.specs.declared.machine.Machine.{Machine}
use Rattle.press_engine.specs.declared.step_output.StepOutput.{StepOutput}
use Rattle.press_engine.specs.Changing.{OnlyChanges}
use Rattle.press_engine.specs.Engine.{InnerTakesMemory, StepsTo}
use Rattle.press_engine.specs.Stack.{continuation}
use Rattle.press_engine.specs.Stepping.{first_effect, TakesFirst, Stepped, step_inner}

-- Commands one after another, each of which does no more than change the machine.
abbrev pub ChangesEach : List Token → (old new : Machine) → Type 0
ChangesEach [] old new = new ≡ old
ChangesEach (command ∷ commands) old new = (next : Machine) × OnlyChanges command old next × ChangesEach commands next new

-- The innermost body that runs went on by such commands, and another is left in it. The bodies round it stay.
pub record GoesOn (old : List Activation) (before : Machine) (new : List Activation) (after : Machine) : Type 0 where
  pub activation : Activation
  pub given : List Token
  pub command : Token
  pub rest : List Token
  pub outer : List Activation
  pub was : old ≡ record activation { body = given ++ command ∷ rest } ∷ outer
  pub is : new ≡ record activation { body = command ∷ rest } ∷ outer
  pub each : ChangesEach given before after

-- The same of one body, of which then one more command was taken.
pub record TakesOn (old : Activation) (before : Machine) (effect : Option Effect) (new : Activation) (after : Machine) : Type 0 where
  pub given : List Token
  pub command : Token
  pub rest : List Token
  pub was : old.body ≡ given ++ command ∷ rest
  pub between : Machine
  pub each : ChangesEach given before between
  pub takes : TakesFirst old command between effect after
  pub left : new ≡ record old { body = rest }

-- It goes on so to a command that takes memory.
abbrev pub ComesToTake : Activation → Machine → Type 0
ComesToTake old before =
    (given : List Token) × (command : Token) × (rest : List Token) × (between : Machine) × (old.body ≡ given ++ command ∷ rest)
    × ChangesEach given before between × TakesMemory (first_effect old command between.state)

-- Bodies that run went on so, and then a step was taken: as what it left,
pub record RunsThrough (bodies : List Activation) (before : Machine) (stepped : Stepped) : Type 0 where
  pub left : List Activation
  pub between : Machine
  pub goes : GoesOn bodies before left between
  pub steps : stepped ≡ step_inner goes.activation goes.command goes.rest goes.outer between

-- as what is answered of it, which was owed next,
pub record RunsTo (bodies : List Activation) (before : Machine) (step : StepOutput) (new : Machine) (still : List Activation) : Type 0 where
  pub left : List Activation
  pub between : Machine
  pub goes : GoesOn bodies before left between
  pub steps : StepsTo (continuation left between) step new still

-- and the same of an engine, which has not failed.
pub record RunsInner (old : Option Machine) (bodies : List Activation) (step : StepOutput) (new : Option Machine) (still : List Activation) : Type 0 where
  pub before : Machine
  pub after : Machine
  pub was : old ≡ Some before
  pub is : new ≡ Some after
  pub runs : RunsTo bodies before step after still

-- Bodies that run go on so to where the next command of the innermost one may take memory.
abbrev pub ComesToTakeMemory : List Activation → Machine → Type 0
ComesToTakeMemory bodies before = (left : List Activation) × (between : Machine) × GoesOn bodies before left between × InnerTakesMemory left between

abbrev pub ComesToNeedMemory : Option Machine → List Activation → Type 0
ComesToNeedMemory None bodies = ⊥
ComesToNeedMemory (Some machine) bodies = ComesToTakeMemory bodies machine
