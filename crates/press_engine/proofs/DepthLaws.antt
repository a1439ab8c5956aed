-- How many bodies run at a time.
use Rattle.std.proofs.Common.{◌≡◌, ◌≤◌, ◌+◌, ◌∙◌, ℕ, List, [], ◌∷◌, false, arith, refl, sym, ap, subst}
use Rattle.std.proofs.Math.Nat.{min-le_left}
use Rattle.std.proofs.lemmas.List.Elements.{All-nil, All-cons, All-append, All-head, All-tail}
use Rattle.std.specs.List.{All}
use Rattle.press_cmd.specs.Token.{Token}
use Rattle.press_engine.specs.declared.activation.Activation.{Activation}
use Rattle.press_engine.specs.declared.machine.Machine.{Machine}
use Rattle.press_engine.specs.Begun.{Begun, end_of, begun_only}
use Rattle.press_engine.specs.TraceLaws.{BodiesAreBounded}
use Rattle.press_engine.specs.Machine.{StepResult, then_run, deeper, macro_levels}
use Rattle.press_engine.specs.Stack.{items_in, room_where}
use Rattle.press_engine.specs.Trace.{last_machine, with_end, trace_each, trace_at}
use Rattle.press_engine.proofs.BegunLemmas.{IsAlone, end-depth}
use Rattle.press_engine.proofs.CommandItems.{Taking, taking, now, effect_at, StartsIn, command-all}
use Rattle.press_engine.proofs.FoldLaws.{trace_tells_the_run}
use Rattle.press_engine.proofs.TraceLaws.{last_machine-append, with_end-machine}

-- so many bodies or fewer
abbrev Within : ℕ → StepResult → Type 0
Within bound item = item.machine.depth ≤ bound

-- As many bodies run after the items as before; and in them no more than a bound, where that leaves room for those that may start.
record Depths (bound room : ℕ) (machine : Machine) (items : List StepResult) : Type 0 where
  pub keeps : (last_machine machine items).depth ≡ machine.depth
  pub within : machine.depth + room ≤ bound → All (Within bound) items

-- an end after which so many bodies run, in the last item
with_end-within : (bound : ℕ) (end : Machine → StepResult) → ((machine : Machine) → Within bound (end machine))
    → (item : StepResult) (items : List StepResult) → Within bound item → All (Within bound) items
    → All (Within bound) (with_end end item items)
with_end-within bound end ends item [] here all =
    All-cons (Within bound) (then_run item.outputs (end item.machine)) [] (ends item.machine) (All-nil (Within bound))
with_end-within bound end ends item (next ∷ items) here all =
    grind (arith, All-cons (Within bound) item (with_end end next items) here (with_end-within bound end ends next items (All-head (Within bound) next items all) (All-tail (Within bound) next items all)))

each-depths : (bound room : ℕ) (one : Token → Machine → List StepResult)
    → ((command : Token) (machine : Machine) → Depths bound room machine (one command machine))
    → (commands : List Token) (machine : Machine) → Depths bound room machine (trace_each one commands machine)
unfolding trace_each
each-depths bound room one all [] machine = record { keeps = refl; within = λ small. All-nil (Within bound) }
each-depths bound room one all (command ∷ commands) machine =
    let middle = last_machine machine (one command machine) in
    let first = all command machine in
    let others = each-depths bound room one all commands middle in
    record {
      keeps = ap (λ (at : Machine). at.depth) (last_machine-append (one command machine) (trace_each one commands middle) machine) ∙ others.keeps ∙ first.keeps;
      within = λ small.
          All-append (Within bound) (one command machine) (trace_each one commands middle) (first.within small)
          (others.within (subst (λ depth. depth + room ≤ bound) (sym first.keeps) small));
    }

-- of an item alone, and of a body
abbrev DepthsAt : (bound : ℕ) → Taking → Begun → List StepResult → Type 0
DepthsAt bound at begin items = Depths bound (room_where at.in_overlay at.levels) at.machine items

alone-depths : (bound : ℕ) (at : Taking) (item : StepResult) → IsAlone (now at) (effect_at at) item → DepthsAt bound at (begun_only item) (item ∷ [])
alone-depths bound at item is = grind arith

body-depths : (bound : ℕ) (at : Taking) (item : StepResult) (activation : Activation) → StartsIn at item activation
    → ((one : Token) (machine : Machine) → Depths bound (room_where activation.in_overlay activation.macro_levels) machine (items_in activation one machine))
    → DepthsAt bound at (begun_only item) (with_end (end_of activation) item (trace_each (items_in activation) activation.body item.machine))
body-depths bound at item activation starts inside =
    let items = trace_each (items_in activation) activation.body item.machine in
    let all = each-depths bound (room_where activation.in_overlay activation.macro_levels) (items_in activation) inside activation.body item.machine in
    let depth = starts.depth in
    let outside = starts.outside in
    let less = starts.room in
    let one : deeper at.machine.depth ≤ at.machine.depth + 1 = min-le_left (at.machine.depth + 1) 255 in
    record {
      keeps = ap (λ (machine : Machine). machine.depth) (with_end-machine (end_of activation) item items at.machine)
          ∙ end-depth activation.end activation.depth (last_machine item.machine items) ∙ outside;
      within = λ small.
          with_end-within bound (end_of activation)
          (λ machine. let ends = end-depth activation.end activation.depth machine in omega (arith, small, ends, outside)) item items
          (omega (arith, small, depth, one, less)) (all.within (omega (arith, small, depth, one, less)));
    }

-- Two macros, and an overlay with one more.
pub at-most-four : (commands : List Token) (machine : Machine) → machine.depth ≡ 0 → BodiesAreBounded commands machine
at-most-four commands machine none =
    let all = each-depths 4 4 (trace_at macro_levels)
    (λ command machine. command-all (DepthsAt 4) (alone-depths 4) (body-depths 4) (taking false macro_levels command machine)) commands machine in
    record { depths = all.within (omega (arith, none)); none_left = ap (λ (at : Machine). at.depth) (sym (trace_tells_the_run commands machine).machine) ∙ all.keeps ∙ none }
