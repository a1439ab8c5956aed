-- What the trace of commands has to do with carrying them out whole.
use Rattle.std.specs.Prelude.{◌≡◌, ◌≤◌, ℕ, List, [], ◌∷◌, ◌++◌, None, ⊤}
use Rattle.std.specs.List.{All}
use Rattle.press_cmd.specs.Token.{Token}
use Rattle.press_engine.specs.declared.machine.Machine.{Machine}
use Rattle.press_table.specs.declared.effect.Source.TheVariants.{Stream}
use Rattle.press_table.specs.Calls.{overlay_body}
use Rattle.press_engine.specs.Machine.{StepResult}
use Rattle.press_table.specs.Outcome.{Effect, Changes, MayAllocate, GivesReply, Stays, Closes, Starts}
use Rattle.press_table.specs.Table.{effect_on}
use Rattle.press_engine.specs.Fold.{run, run_all}
use Rattle.press_engine.specs.Trace.{last_machine, joined, trace}

-- The items stand for a run: they end in its machine, and their outputs joined are its outputs.
pub record Tells (items : List StepResult) (before : Machine) (run : StepResult) : Type 0 where
  pub machine : last_machine before items ≡ run.machine
  pub outputs : joined items ≡ run.outputs

abbrev pub TraceTellsTheRun : Type 0
TraceTellsTheRun =
    (commands : List Token) (machine : Machine) → Tells (trace commands machine) machine (run_all commands machine)

-- The trace of commands and then others is that of the first, and then that of the others.
abbrev pub TraceGoesOn : Type 0
TraceGoesOn =
    (commands others : List Token) (machine : Machine)
    → trace (commands ++ others) machine ≡ trace commands machine ++ trace others (run_all commands machine).machine

-- What a row gives is one step alone: no body starts, and no page closes where an overlay runs.
abbrev pub IsOneStep : Effect → Type 0
IsOneStep (Changes state) = ⊤
IsOneStep (MayAllocate state) = ⊤
IsOneStep (GivesReply reply state) = ⊤
IsOneStep (Stays cause state) = ⊤
IsOneStep (Closes cause state) = overlay_body state ≡ None
IsOneStep (Starts commands end state) = ⊥

-- The trace of such a command of the stream has one item, and that is the run of the command.
abbrev pub OneStepIsTheRun : Type 0
OneStepIsTheRun =
    (command : Token) (machine : Machine) → IsOneStep (effect_on Stream command machine.state)
    → trace (command ∷ []) machine ≡ run command machine ∷ []

-- No more than four bodies run at a time: two macros, and an overlay with one more. After a whole command none runs.
abbrev pub most_bodies : ℕ
most_bodies = 4

pub record BodiesAreBounded (commands : List Token) (machine : Machine) : Type 0 where
  pub depths : All (λ item. item.machine.depth ≤ most_bodies) (trace commands machine)
  pub none_left : (run_all commands machine).machine.depth ≡ 0

abbrev pub AtMostFourBodies : Type 0
AtMostFourBodies =
    (commands : List Token) (machine : Machine) → machine.depth ≡ 0 → BodiesAreBounded commands machine
