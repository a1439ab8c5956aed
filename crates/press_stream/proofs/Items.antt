-- What is left to do of bodies that run and of commands behind them.
use Rattle.std.proofs.Common.{◌≡◌, List, [], ◌∷◌, ◌++◌, arith}
use Rattle.std.proofs.lemmas.List.{append_assoc, append-nil}
use Rattle.press_cmd.specs.Token.{Token}
use Rattle.press_engine.specs.declared.activation.Activation.{Activation}
use Rattle.press_engine.specs.declared.machine.Machine.{Machine}
use Rattle.press_engine.specs.Machine.{StepResult, macro_levels}
use Rattle.press_engine.specs.Stack.{continuation}
use Rattle.press_engine.specs.Trace.{last_machine, joined, trace_each, trace_at, trace}
use Rattle.press_engine.proofs.TraceLaws.{last_machine-append, trace_each-append}
use Rattle.press_stream.specs.Meaning.{left}

pub joined-one : (item : StepResult) → joined (item ∷ []) ≡ item.outputs
joined-one item = append-nil item.outputs

-- no command
pub left-none : (bodies : List Activation) (machine : Machine) → left [] bodies machine ≡ continuation bodies machine
unfolding trace_each
left-none bodies machine = append-nil (continuation bodies machine)

-- one command, where no body runs
pub left-one : (command : Token) (machine : Machine) → left (command ∷ []) [] machine ≡ trace_at macro_levels command machine
unfolding trace_each
left-one command machine = append-nil (trace_at macro_levels command machine)

-- commands, and then others
pub left-append : (given others : List Token) (bodies : List Activation) (machine : Machine)
    → left (given ++ others) bodies machine ≡ left given bodies machine ++ trace others (last_machine machine (left given bodies machine))
left-append given others bodies machine = grind (arith, append_assoc, last_machine-append, trace_each-append)

-- Where items were done of what is left of the first commands, the others come behind what is still owed.
pub left-then : (given others : List Token) (bodies still : List Activation) (machine : Machine) (items : List StepResult)
    → left given bodies machine ≡ items ++ continuation still (last_machine machine items)
    → left (given ++ others) bodies machine ≡ items ++ left others still (last_machine machine items)
left-then given others bodies still machine items are = grind (arith, left-append, append_assoc, last_machine-append)

pub last-append : (items others : List StepResult) (machine : Machine) → last_machine machine (items ++ others) ≡ last_machine (last_machine machine items) others
last-append = last_machine-append
