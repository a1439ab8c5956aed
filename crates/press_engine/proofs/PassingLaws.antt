-- Commands of the stream that have no effect.
use Rattle.std.proofs.Common.{◌≡◌, ◌∙◌, ℕ, suc, List, [], ◌∷◌, ◌++◌, length, Bool, false, refl, ap, arith}
use Rattle.std.specs.Prelude.{if◌then◌else◌}
use Rattle.std.specs.List.{AllByRecursion}
use Rattle.press_cmd.specs.Token.{Token}
use Rattle.press_cmd.specs.Kinds.{kind_of}
use Rattle.press_engine.specs.declared.machine.Machine.{Machine}
use Rattle.press_table.specs.declared.effect.Source.TheVariants.{Stream}
use Rattle.press_table.specs.declared.state.State.{State}
use Rattle.press_engine.specs.Machine.{silent, taken, macro_levels}
use Rattle.press_table.specs.Outcome.{Effect, Changes, MayAllocate}
use Rattle.press_table.specs.Passing.{HasNoEffect}
use Rattle.press_engine.specs.Passing.{passed, PassingIsCounted}
use Rattle.press_table.specs.Table.{is_recorded}
use Rattle.press_engine.specs.Trace.{trace_each, trace_at}
use Rattle.press_engine.proofs.FoldLaws.{told_all-run_all}
use Rattle.press_engine.proofs.Runs.{told_all}

not_recorded : (recorded : Bool) (state : State) (other : State) (row : Effect) → (if recorded then MayAllocate other else row) ≡ Changes state → recorded ≡ false
not_recorded recorded state other row is = grind arith

taken-passed : (command : Token) (machine : Machine) → HasNoEffect machine.state command → taken Stream command machine ≡ passed 1 (kind_of command) machine
taken-passed command machine none =
    let closed : is_recorded command machine.state ≡ false = not_recorded (is_recorded command machine.state) machine.state _ _ none.0 in
    rw (closed, none.1) refl

pub one-passed : (command : Token) (machine : Machine) → HasNoEffect machine.state command → trace_at macro_levels command machine ≡ silent (passed 1 (kind_of command) machine) ∷ []
unfolding trace_at
one-passed command machine none = grind (arith, none.0, taken-passed command machine none)

pub run-cons : (command : Token) (commands : List Token) (machine next : Machine) → trace_at macro_levels command machine ≡ silent next ∷ [] → told_all (command ∷ commands) machine ≡ told_all commands next
unfolding trace_each
run-cons command commands machine next is = grind (arith, is)

pub run-none : (machine : Machine) → told_all [] machine ≡ silent machine
unfolding trace_each
run-none machine = refl

pub passed-more : (count : ℕ) (first last : Token) (machine : Machine) → passed count (kind_of last) (passed 1 (kind_of first) machine) ≡ passed (suc count) (kind_of last) machine
passed-more count first last machine = grind arith

told-passed : (prefix : List Token) (last : Token) (machine : Machine) → AllByRecursion (HasNoEffect machine.state) (prefix ++ last ∷ [])
    → told_all (prefix ++ last ∷ []) machine ≡ silent (passed (length (prefix ++ last ∷ [])) (kind_of last) machine)
told-passed [] last machine all =
    run-cons last [] machine (passed 1 (kind_of last) machine) (one-passed last machine all.0) ∙ run-none _
told-passed (command ∷ prefix) last machine all =
    let next = passed 1 (kind_of command) machine in
    run-cons command (prefix ++ last ∷ []) machine next (one-passed command machine all.0)
    ∙ told-passed prefix last next all.1
    ∙ ap silent (passed-more (length (prefix ++ last ∷ [])) command last machine)

pub passing_is_counted : PassingIsCounted
passing_is_counted prefix last machine all = grind (arith, told_all-run_all (prefix ++ last ∷ []) machine, told-passed prefix last machine all)
