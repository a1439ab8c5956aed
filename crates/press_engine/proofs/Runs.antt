-- What the trace of commands leaves, one command after another.
use Rattle.std.proofs.Common.{◌≡◌, List, [], ◌∷◌, ◌++◌, refl, ap, arith}
use Rattle.std.proofs.lemmas.List.{append-nil}
use Rattle.press_cmd.specs.Token.{Token}
use Rattle.press_engine.specs.declared.machine.Machine.{Machine}
use Rattle.press_engine.specs.Machine.{StepResult, macro_levels, then_run}
use Rattle.press_engine.specs.Trace.{trace_each, trace_at, trace, told_by}
use Rattle.press_engine.proofs.TraceLaws.{last_machine-append, joined-append, trace-append}

-- what the items of a command leave, and those of commands
abbrev pub told : Token → Machine → StepResult
told command machine = told_by (trace_at macro_levels command machine) machine

abbrev pub told_all : List Token → Machine → StepResult
told_all commands machine = told_by (trace commands machine) machine

pub told_all-none : (machine : Machine) → told_all [] machine ≡ record { machine = machine; outputs = [] }
unfolding trace_each
told_all-none machine = refl

-- commands, and then others from the machine that they left
pub told_all-append : (commands others : List Token) (machine : Machine)
    → told_all (commands ++ others) machine
    ≡ then_run (told_all commands machine).outputs (told_all others (told_all commands machine).machine)
told_all-append commands others machine = grind (arith, trace-append, last_machine-append, joined-append)

pub told_all-one : (command : Token) (machine : Machine) → told_all (command ∷ []) machine ≡ told command machine
unfolding trace_each
told_all-one command machine = ap (λ (items : List StepResult). told_by items machine) (append-nil (trace_at macro_levels command machine))
