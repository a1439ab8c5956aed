-- A step as a value, and what the sinks took of it.
use Rattle.std.proofs.Common.{◌≡◌, ◌≢◌, ◌⊎◌, ◌∙◌, ℕ, List, [], ◌∷◌, Option, None, false, Result, Ok, Err, refl, sym, ap, subst, arith}
use Rattle.press_cmd.specs.Token.{Token}
use Rattle.press_cmd.specs.declared.variant.Kind.{Kind}
use Rattle.press_sink.specs.Sending.{Output, Complete, WentOut}
use Rattle.press_sink.specs.SinkLog.{SinkLog, under}
use Rattle.press_sink.proofs.SendingLemmas.{WentOut-no_memory}
use Rattle.press_engine.specs.declared.step_output.StepOutput.{StepOutput}
use Rattle.press_engine.specs.declared.fault.EngineError.{EngineError}
use Rattle.press_engine.specs.declared.fault.EngineError.TheVariants as engine_errors
use Rattle.press_engine.specs.declared.activation.Activation.{Activation}
use Rattle.press_engine.specs.declared.machine.Machine.{Machine}
use Rattle.press_table.specs.declared.effect.Source.TheVariants.{Stream}
use Rattle.press_table.specs.Memory.{TakesMemory}
use Rattle.press_engine.specs.Engine.{ending_of, Steps, TakesItem, TakesNext, NeedsMemory, InnerNeedsMemory, InnerTakesMemory}
use Rattle.press_engine.specs.Machine.{StepResult, macro_levels}
use Rattle.press_table.specs.Outputs.{all_outputs}
use Rattle.press_engine.specs.Stack.{continuation, HasNext}
use Rattle.press_engine.specs.Stepping.{step_inner}
use Rattle.press_table.specs.Table.{effect_on}
use Rattle.press_engine.specs.Trace.{trace_at}
use Rattle.press_engine.proofs.ItemsLemmas.{inner-gives}
use Rattle.press_engine.proofs.StackLaws.{outer-continuation}
use Rattle.press_engine.proofs.StepLemmas.{step-sends, no-overlay}
use Rattle.press_engine.proofs.CommandItems.{taking, taking_in}

-- what goes out in the first of the items
abbrev first_outputs : List StepResult → List Output
first_outputs [] = []
first_outputs (item ∷ items) = item.outputs

-- the engine's step, whose outputs all went out
pub takes-ok : (old : Option Machine) (owing : Machine → List StepResult) (step : StepOutput) (new : Option Machine)
    (still : List Activation) (tag : ℕ) (before after : SinkLog)
    → Steps old owing step new still → WentOut tag (all_outputs step.sent.items) Complete before after
    → TakesNext old owing (Ok step.kind) new still (under tag before after)
takes-ok old owing step new still tag before after s sends =
    let P : Option Machine → Type 0 = λ from. TakesNext from owing (Ok step.kind) new still (under tag before after) in
    subst P (sym s.was) (record {
      item = record { machine = s.after; outputs = all_outputs step.sent.items };
      others = continuation still s.after;
      due = s.steps.owes;
      left = (s.steps.kind, s.is, refl);
      sends = sends;
    })

-- and one at whose outputs a sink had a fault
pub takes-stopped : (old : Option Machine) (owing : Machine → List StepResult) (step : StepOutput) (between new : Option Machine)
    (held still : List Activation) (tag : ℕ) (sent : Result (Unit {0}) EngineError) (result : Result Kind EngineError)
    (error : EngineError) (before after : SinkLog)
    → Steps old owing step between held → WentOut tag (all_outputs step.sent.items) (ending_of sent) before after → sent ≡ Err error
    → result ≡ Err error → new ≡ None → still ≡ [] → TakesNext old owing result new still (under tag before after)
takes-stopped old owing step between new held still tag sent result error before after s sends stops exits fails none =
    let P : Option Machine → Type 0 = λ from. TakesNext from owing (Err error) new still (under tag before after) in
    let Q : Result Kind EngineError → Type 0 = λ answer. TakesNext old owing answer new still (under tag before after) in
    let R : Result (Unit {0}) EngineError → Type 0 = λ answer. WentOut tag (all_outputs step.sent.items) (ending_of answer) before after in
    subst Q (sym exits) (subst P (sym s.was) (record {
      item = record { machine = s.after; outputs = all_outputs step.sent.items };
      others = continuation held s.after;
      due = s.steps.owes;
      left = (fails, none);
      sends = subst R stops sends;
    }))

pub some-items : (owing : List StepResult) → owing ≢ [] → (item : StepResult) × (others : List StepResult) × (owing ≡ item ∷ others)
some-items [] some = absurd (some refl)
some-items (item ∷ others) some = (item, others, refl)

stopped-at : (owing : List StepResult) (tag : ℕ) (new : Option Machine) (still : List Activation) (told : SinkLog) → owing ≢ []
    → new ≡ None → still ≡ [] → TakesItem owing (Err engine_errors.NoMemory) new still (under tag told told)
stopped-at owing tag new still told some fails none =
    let (item, others, is) = some-items owing some in
    record {
      item = item;
      others = others;
      due = is;
      left = (fails, none);
      sends = WentOut-no_memory tag item.outputs told;
    }

takes-failed : (old : Option Machine) (owing : Machine → List StepResult) (tag : ℕ) (error : EngineError) (new : Option Machine)
    (still : List Activation) (told : SinkLog)
    → ((machine : Machine) → owing machine ≢ []) → (error ≡ engine_errors.Failed) ⊎ (error ≡ engine_errors.NoMemory)
    → (error ≡ engine_errors.Failed → old ≡ None) → new ≡ None → still ≡ []
    → TakesNext old owing (Err error) new still (under tag told told)
takes-failed old owing tag error new still told some refused failed fails none = grind (arith, stopped-at)

-- and one for which memory ran out, or which an engine refused that had failed before
pub takes-none : (old : Option Machine) (owing : Machine → List StepResult) (tag : ℕ) (result : Result Kind EngineError)
    (error : EngineError) (new : Option Machine) (still : List Activation) (told : SinkLog)
    → ((machine : Machine) → owing machine ≢ []) → (error ≡ engine_errors.Failed) ⊎ (error ≡ engine_errors.NoMemory)
    → (error ≡ engine_errors.Failed → old ≡ None) → result ≡ Err error → new ≡ None → still ≡ []
    → TakesNext old owing result new still (under tag told told)
takes-none old owing tag result error new still told some refused failed exits fails none = grind (arith, takes-failed)

-- a step is owed
pub outer-some : (command : Token) (machine : Machine) → trace_at macro_levels command machine ≢ []
outer-some command machine = grind (arith, outer-continuation)

pub inner-some : (activations : List Activation) (machine : Machine) → HasNext activations → continuation activations machine ≢ []
inner-some activations machine (activation, command, rest, outer, is) =
    let P : List StepResult → Type 0 = λ items. items ≢ [] in
    let stepped = step_inner activation command rest outer machine in
    subst P (sym (inner-gives activation command rest outer activations machine is)) (λ (none : stepped.item ∷ continuation stepped.activations stepped.item.machine ≡ []). cc)

-- where something goes out in the first item that is owed, its command may take memory
pub wants-outer : (command : Token) (machine : Machine) (item : StepResult) (others : List StepResult)
    → trace_at macro_levels command machine ≡ item ∷ others → item.outputs ≢ [] → TakesMemory (effect_on Stream command machine.state)
wants-outer command machine item others is some =
    let P : List Output → Type 0 = λ outputs. outputs ≢ [] in
    no-overlay (step-sends (taking false macro_levels command machine) [] (subst P (ap first_outputs (sym is ∙ outer-continuation command machine)) some))

pub wants-inner : (activations : List Activation) (machine : Machine) (item : StepResult) (others : List StepResult) → HasNext activations
    → continuation activations machine ≡ item ∷ others → item.outputs ≢ [] → InnerTakesMemory activations machine
wants-inner activations machine item others (activation, command, rest, outer, is) owes some =
    let P : List Output → Type 0 = λ outputs. outputs ≢ [] in
    let same = ap first_outputs (sym owes ∙ inner-gives activation command rest outer activations machine is) in
    (activation, command, rest, outer, is, step-sends (taking_in activation command machine) (record activation { body = rest } ∷ outer) (subst P same some))

-- so may a step
pub needs-outer : (command : Token) (step : StepOutput) (old new : Option Machine) (still : List Activation)
    → Steps old (trace_at macro_levels command) step new still → all_outputs step.sent.items ≢ [] → NeedsMemory old command
needs-outer command step old new still s some = grind (arith, wants-outer)

pub needs-inner : (activations : List Activation) (step : StepOutput) (old new : Option Machine) (still : List Activation)
    → HasNext activations → Steps old (continuation activations) step new still → all_outputs step.sent.items ≢ []
    → InnerNeedsMemory old activations
needs-inner activations step old new still next s some = grind (arith, wants-inner)
