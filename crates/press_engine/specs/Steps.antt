-- How the items of a trace count.
use Rattle.std.specs.Prelude.{◌≡◌, List, [], ◌∷◌, ⊤}
use Rattle.press_cmd.specs.Token.{Token}
use Rattle.press_engine.specs.declared.machine.Machine.{Machine}
use Rattle.press_table.specs.Counts.{counted}
use Rattle.press_engine.specs.Machine.{StepResult}
use Rattle.press_engine.specs.Trace.{trace}

-- Each item is one step more than the one before it, and the first one more than the machine.
abbrev pub CountFrom : Machine → List StepResult → Type 0
CountFrom machine [] = ⊤
CountFrom machine (item ∷ items) = (item.machine.step ≡ counted machine.step 1) × CountFrom item.machine items

-- So do the items of the trace of commands: item k of a stream has step k.
abbrev pub EachItemIsOneStep : Type 0
EachItemIsOneStep = (commands : List Token) (machine : Machine) → CountFrom machine (trace commands machine)
