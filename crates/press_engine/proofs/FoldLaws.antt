-- The trace of commands tells what the commands leave: it flattens the bodies that the fold carries out whole.
use Rattle.std.proofs.Common.{◌≡◌, ◌∙◌, ℕ, zero, suc, List, [], ◌∷◌, ◌++◌, Option, Some, None, refl, ap, arith}
use Rattle.std.proofs.lemmas.List.{append_assoc, append-nil}
use Rattle.press_cmd.specs.Token.{Token}
use Rattle.press_table.specs.declared.effect.EjectCause.{EjectCause}
use Rattle.press_table.specs.declared.effect.Source.TheVariants as sources
use Rattle.press_table.specs.Calls.{overlay_body}
use Rattle.press_table.specs.Outcome.{Effect, Changes, MayAllocate, GivesReply, Stays, Closes, Starts}
use Rattle.press_table.specs.Table.{effect_on}
use Rattle.press_engine.specs.declared.machine.Machine.{Machine}
use Rattle.press_engine.specs.Begun.{begun_in_overlay, begun_outside, begun_close}
use Rattle.press_engine.specs.Fold.{fold, effect_in_overlay, whole_in_overlay, close_behind, close_whole, effect_whole, effect_outside, whole_at, run, run_all}
use Rattle.press_engine.specs.TraceLaws.{Tells, TraceTellsTheRun, TraceGoesOn, OneStepIsTheRun}
use Rattle.press_engine.specs.Machine.{StepResult, silent, then_run, with_state, taken, enter_body, leave_body, state_of}
use Rattle.press_engine.specs.Machine.{overlay_levels, enter_overlay, finish_without_overlay, macro_levels, source_at}
use Rattle.press_engine.specs.Trace.{last_machine, joined, with_end, trace_each, begun_items, trace_in_overlay, inside_of, trace_at, trace}
use Rattle.press_engine.proofs.Runs.{told, told_all}
use Rattle.press_engine.proofs.TraceLaws.{last_machine-append, joined-append, with_end-machine, trace-append, trace-one}

with_end-joined : (end : Machine → StepResult) (item : StepResult) (items : List StepResult) → joined (with_end end item items) ≡ item.outputs ++ (joined items ++ (end (last_machine item.machine items)).outputs)
with_end-joined end item [] = append-nil (item.outputs ++ (end item.machine).outputs)
with_end-joined end item (next ∷ items) = grind (arith, append_assoc, with_end-joined end next items)

tells-one : (before : Machine) (run : StepResult) → Tells (run ∷ []) before run
tells-one before run = record { machine = refl; outputs = append-nil run.outputs }

module _ (one : Token → Machine → StepResult) (tracing : Token → Machine → List StepResult) (tells : (command : Token) (machine : Machine) → Tells (tracing command machine) machine (one command machine)) where
  tells-each : (commands : List Token) (machine : Machine) → Tells (trace_each tracing commands machine) machine (fold one commands machine)
  unfolding trace_each fold
  tells-each [] machine = record { machine = refl; outputs = refl }
  tells-each (command ∷ commands) machine =
      let first = tells command machine in
      let middle = last_machine machine (tracing command machine) in
      let others = tells-each commands middle in
      let rest : Machine → StepResult = λ at. fold one commands at in
      record {
        machine = last_machine-append (tracing command machine) (trace_each tracing commands middle) machine ∙ others.machine ∙ ap (λ at. (rest at).machine) first.machine;
        outputs = joined-append (tracing command machine) (trace_each tracing commands middle) ∙ ap (λ outputs. outputs ++ joined (trace_each tracing commands middle)) first.outputs ∙ ap (λ outputs. (one command machine).outputs ++ outputs) (others.outputs ∙ ap (λ at. (rest at).outputs) first.machine);
      }

  -- a body with what its end does
  tells-body : (end : Machine → StepResult) (commands : List Token) (before inside : Machine)
      → Tells (with_end end (silent inside) (trace_each tracing commands inside)) before (then_run (fold one commands inside).outputs (end (fold one commands inside).machine))
  tells-body end commands before inside =
      let all = tells-each commands inside in
      let items = trace_each tracing commands inside in
      record {
        machine = with_end-machine end (silent inside) items before ∙ ap (λ at. (end at).machine) all.machine;
        outputs = with_end-joined end (silent inside) items ∙ ap (λ outputs. outputs ++ (end (last_machine inside items)).outputs) all.outputs ∙ ap (λ at. (fold one commands inside).outputs ++ (end at).outputs) all.machine;
      }

-- ---- in an overlay

tells-in : (one : Token → Machine → StepResult) (tracing : Token → Machine → List StepResult) → ((command : Token) (machine : Machine) → Tells (tracing command machine) machine (one command machine))
    → (more : ℕ) (before machine : Machine) (effect : Effect)
    → Tells (begun_items (λ activation. tracing) (begun_in_overlay (suc more) machine effect)) before (effect_in_overlay one machine effect)
tells-in one tracing tells more before machine (Changes state) = tells-one before (silent (with_state state machine))
tells-in one tracing tells more before machine (MayAllocate state) = tells-one before (silent (with_state state machine))
tells-in one tracing tells more before machine (GivesReply reply state) = tells-one before (silent (with_state state machine))
tells-in one tracing tells more before machine (Stays cause state) = tells-one before (silent (with_state state machine))
tells-in one tracing tells more before machine (Closes cause state) = tells-one before (silent (with_state state machine))
tells-in one tracing tells more before machine (Starts commands end state) =
    tells-body one tracing tells (λ after. silent (leave_body end machine.depth after)) commands before (enter_body end state machine)

zero-in : (before machine : Machine) (effect : Effect) → Tells ((begun_in_overlay 0 machine effect).item ∷ []) before (silent (with_state (state_of effect) machine))
zero-in before machine effect = grind arith

tells-overlay : (levels : ℕ) (command : Token) (machine : Machine) → Tells (trace_in_overlay levels command machine) machine (whole_in_overlay levels command machine)
unfolding trace_in_overlay whole_in_overlay
tells-overlay zero command machine = zero-in machine (taken sources.Overlay command machine) (effect_on sources.Overlay command machine.state)
tells-overlay (suc more) command machine =
    tells-in (whole_in_overlay more) (trace_in_overlay more) (tells-overlay more) more machine (taken sources.Overlay command machine) (effect_on sources.Overlay command machine.state)

-- ---- outside

tells-close : (of_macro : Token → Machine → List StepResult) (body : Option (List Token)) (cause : EjectCause) (before machine : Machine)
    → Tells (begun_items (inside_of of_macro) (begun_close body cause machine)) before (close_whole body cause machine)
tells-close of_macro None cause before machine = tells-one before (finish_without_overlay machine (Closes cause machine.state))
tells-close of_macro (Some commands) cause before machine =
    grind (arith, tells-body (whole_in_overlay overlay_levels) (trace_in_overlay overlay_levels) (tells-overlay overlay_levels) (close_behind cause machine) commands before (enter_overlay machine))

tells-out : (one : Token → Machine → StepResult) (tracing : Token → Machine → List StepResult) → ((command : Token) (machine : Machine) → Tells (tracing command machine) machine (one command machine))
    → (more : ℕ) (before machine : Machine) (effect : Effect)
    → Tells (begun_items (inside_of tracing) (begun_outside (suc more) machine effect)) before (effect_outside one machine effect)
tells-out one tracing tells more before machine (Changes state) = tells-one before (finish_without_overlay machine (Changes state))
tells-out one tracing tells more before machine (MayAllocate state) = tells-one before (finish_without_overlay machine (MayAllocate state))
tells-out one tracing tells more before machine (GivesReply reply state) = tells-one before (finish_without_overlay machine (GivesReply reply state))
tells-out one tracing tells more before machine (Stays cause state) = tells-one before (finish_without_overlay machine (Stays cause state))
tells-out one tracing tells more before machine (Closes cause state) = tells-close tracing (overlay_body state) cause before (with_state state machine)
tells-out one tracing tells more before machine (Starts commands end state) =
    tells-body one tracing tells (λ after. silent (leave_body end machine.depth after)) commands before (enter_body end state machine)

-- with no macro left to start, only an overlay may run
zero-close : (body : Option (List Token)) (cause : EjectCause) (before machine : Machine)
    → Tells (begun_items (λ activation. trace_in_overlay overlay_levels) (begun_close body cause machine)) before (close_whole body cause machine)
zero-close None cause before machine = tells-one before (finish_without_overlay machine (Closes cause machine.state))
zero-close (Some commands) cause before machine =
    grind (arith, tells-body (whole_in_overlay overlay_levels) (trace_in_overlay overlay_levels) (tells-overlay overlay_levels) (close_behind cause machine) commands before (enter_overlay machine))

zero-out : (before machine : Machine) (effect : Effect)
    → Tells (begun_items (λ activation. trace_in_overlay overlay_levels) (begun_outside 0 machine effect)) before (effect_whole machine effect)
zero-out before machine (Changes state) = tells-one before (finish_without_overlay machine (Changes state))
zero-out before machine (MayAllocate state) = tells-one before (finish_without_overlay machine (MayAllocate state))
zero-out before machine (GivesReply reply state) = tells-one before (finish_without_overlay machine (GivesReply reply state))
zero-out before machine (Stays cause state) = tells-one before (finish_without_overlay machine (Stays cause state))
zero-out before machine (Closes cause state) = zero-close (overlay_body state) cause before (with_state state machine)
zero-out before machine (Starts commands end state) = tells-one before (finish_without_overlay machine (Starts commands end state))

tells-at : (levels : ℕ) (command : Token) (machine : Machine) → Tells (trace_at levels command machine) machine (whole_at levels command machine)
unfolding trace_at whole_at
tells-at zero command machine = zero-out machine (taken (source_at 0) command machine) (effect_on (source_at 0) command machine.state)
tells-at (suc more) command machine =
    tells-out (whole_at more) (trace_at more) (tells-at more) more machine (taken (source_at (suc more)) command machine) (effect_on (source_at (suc more)) command machine.state)

-- Each command, and commands one after another.
pub trace_tells_the_run : TraceTellsTheRun
trace_tells_the_run = tells-each run (trace_at macro_levels) (tells-at macro_levels)

pub told-run : (command : Token) (machine : Machine) → told command machine ≡ run command machine
told-run command machine =
    let tells = tells-at macro_levels command machine in
    λ i. record { machine = tells.machine i; outputs = tells.outputs i }

pub told_all-run_all : (commands : List Token) (machine : Machine) → told_all commands machine ≡ run_all commands machine
told_all-run_all commands machine = grind (arith, trace_tells_the_run)

pub trace_goes_on : TraceGoesOn
trace_goes_on commands others machine =
    trace-append commands others machine
    ∙ ap (λ at. trace commands machine ++ trace others at) (trace_tells_the_run commands machine).machine

pub one_step_is_the_run : OneStepIsTheRun
one_step_is_the_run command machine step = grind (arith, trace-one command machine step, told-run command machine)
