-- Steps of an engine, and those of the job round it.
use Rattle.std.proofs.Common.{◌≡◌, ◌≢◌, ◌∙◌, ℕ, List, [], ◌∷◌, true, false, Option, Some, None, Result, Ok, Err, refl, sym, ap, subst, inl, inr, arith, rules}
use Rattle.press_cmd.specs.Token.{Token, Uel}
use Rattle.press_cmd.specs.declared.variant.Kind.{Kind}
use Rattle.press_scan.specs.ScannerState.{ScannerState}
use Rattle.press_sink.specs.SinkLog.{SinkLog, under}
use Rattle.press_sink.specs.Sending.{Output, Ending, Complete, AtSheet, AtReply, ForMemory, Refused, GoesOut, WentOut, HandsOut}
use Rattle.press_sink.proofs.SendingLemmas.{Took-none, WentOut-took}
use Rattle.press_table.specs.declared.effect.Sent.{Sent}
use Rattle.press_engine.specs.declared.step_output.StepOutput.{StepOutput}
use Rattle.press_engine.specs.declared.activation.Activation.{Activation}
use Rattle.press_engine.specs.declared.machine.Machine.{Machine}
use Rattle.press_engine.specs.Engine.{bodies, Steps, NeedsMemory, InnerNeedsMemory}
use Rattle.press_engine.specs.Machine.{StepResult, macro_levels}
use Rattle.press_table.specs.Outputs.{all_outputs}
use Rattle.press_engine.specs.Stack.{continuation}
use Rattle.press_engine.specs.Trace.{trace_at}
use Rattle.press_engine.proofs.ValueLemmas.{some-items, outer-some, inner-some, wants-outer, wants-inner}
use Rattle.press_stream.specs.declared.fault.JobError.{JobError}
use Rattle.press_stream.specs.declared.fault.JobError.TheVariants as errors
use Rattle.press_stream.specs.declared.step.Step.TheVariants as answers
use Rattle.press_stream.specs.Answers.{ending_by, IsDue, TakesOf, Takes, StopsAtDue, TakesStep, WantsMemory}
use Rattle.press_stream.specs.Meaning.{left}
use Rattle.press_stream.specs.State.{JobState}
use Rattle.press_stream.specs.Steps.{TakesGiven, TakesNothing, Does, DoesStep, CarriesOne, CarriesNext}
use Rattle.press_stream.proofs.Items.{left-none, left-one}
use Rattle.press_stream.proofs.Going.{next_runs, taken-of}

-- an answer tells one fault
pub same_fault : {X : Type 0} (result : Result X JobError) (one other : JobError) → result ≡ Err one → result ≡ Err other → one ≡ other
same_fault result one other p q = cc

-- ---- the steps of a job

-- What was left of an engine was what is left of a job with what it takes of its stream.
abbrev IsLeft : List Token → JobState → (Machine → List StepResult) → Type 0
IsLeft given job owing = (machine : Machine) → left given job.bodies machine ≡ owing machine

command_is_left : (bodies : List Activation) (command : Token) (machine : Machine) → bodies ≡ [] → left (command ∷ []) bodies machine ≡ trace_at macro_levels command machine
command_is_left bodies command machine idle = ap (λ (these : List Activation). left (command ∷ []) these machine) idle ∙ left-one command machine

does_step : (given : List Token) (old new : JobState) (owing : Machine → List StepResult) (step : StepOutput) → TakesGiven old given new
    → IsLeft given old owing → Steps old.machine owing step new.machine new.bodies → DoesStep old step new
does_step given old new owing step takes is s = (
  s.after,
  record { given = given; takes = takes; from = s.before; starts = s.was; ends = s.is; is_kind = s.steps.kind; are = is s.before ∙ s.steps.owes },
)

-- a step in a body that runs
pub DoesStep-inside : (old new : JobState) (step : StepOutput) → TakesNothing old [] new → Steps old.machine (continuation old.bodies) step new.machine new.bodies → DoesStep old step new
DoesStep-inside old new step takes s = does_step [] old new (continuation old.bodies) step (inl takes) (left-none old.bodies) s

-- a job that runs
abbrev running_job : ScannerState → Option Machine → List Activation → JobState
running_job held machine bodies = record { held = held; machine = machine; bodies = bodies; exited = false }

-- a step that took a command that was held
pub DoesStep-next : (held next : ScannerState) (old new : Option Machine) (bodies still : List Activation) (step : StepOutput)
    → bodies ≡ [] → CarriesNext held old (Ok (Some step)) next new still
    → DoesStep (running_job held old bodies) step (running_job next new still)
DoesStep-next held next old new bodies still step idle (command, passes, s) =
    does_step (command ∷ []) (running_job held old bodies) (running_job next new still) (trace_at macro_levels command) step
    (inr (inl (command, refl, idle, refl, refl, passes))) (λ machine. command_is_left bodies command machine idle) s

-- a step that took the exit, where nothing was held
pub DoesStep-exit : (held next : ScannerState) (old between new : Option Machine) (bodies none still : List Activation) (step : StepOutput)
    → bodies ≡ [] → next.ended ≡ true → CarriesNext held old (Ok None) next between none → CarriesOne Uel between (Ok step) new still
    → DoesStep (running_job held old bodies) step (record { held = next; machine = new; bodies = still; exited = true })
DoesStep-exit held next old between new bodies none still step idle ended nothing s =
    let P : Option Machine → Type 0 = λ machine. Steps machine (trace_at macro_levels Uel) step new still in
    let over : held.ended ≡ true = ap (λ (now : ScannerState). now.ended) (sym nothing.1) ∙ ended in
    does_step (Uel ∷ []) (running_job held old bodies) (record { held = next; machine = new; bodies = still; exited = true }) (trace_at macro_levels Uel) step
    (inr (inr (refl, idle, refl, refl, nothing.1, over, nothing.0))) (λ machine. command_is_left bodies Uel machine idle) (subst P nothing.2 s)

-- ---- what goes out in a step

-- a step all of whose outputs went out
pub Takes-sent : (old between new : JobState) (step : StepOutput) (sent : List Sent) (tag : ℕ) (before after : SinkLog)
    → DoesStep old step between → new ≡ between → sent ≡ step.sent.items → WentOut tag (all_outputs sent) Complete before after
    → HandsOut Complete (Takes old (Ok (answers.Ran step.kind)) new) (under tag before after)
Takes-sent old between new step sent tag before after (machine, did) same is hands =
    let item : StepResult = record { machine = machine; outputs = all_outputs step.sent.items } in
    let Q : JobState → Type 0 = λ job. Does old item step.kind job in
    record {
      went = hands.went;
      is = (item, subst Q (sym same) did, hands.goes ∙ ap all_outputs is);
      took = WentOut-took tag (all_outputs sent) Complete before after hands;
    }

-- the outputs of a step's item went out so far
stops-at : (old new : JobState) (item : StepResult) (kind : Kind) (ending : Ending) (went : List Output)
    → Does old item kind new → GoesOut ending went item.outputs → StopsAtDue old ending went
stops-at old new item kind ending went did goes = search (rules, taken-of)

faults-by : (old between new : JobState) (item : StepResult) (kind : Kind) (error : JobError) (went : List Output)
    → Does old item kind between → new.machine ≡ None → GoesOut (ending_by (Some error)) went item.outputs
    → Takes old (Err error) new went
faults-by old between new item kind errors.SinkFault went did gone goes = (gone, stops-at old between item kind AtSheet went did goes)
faults-by old between new item kind errors.ReplyFault went did gone goes = (gone, stops-at old between item kind AtReply went did goes)
faults-by old between new item kind errors.NoMemory went did gone goes = (gone, stops-at old between item kind ForMemory went did goes)
faults-by old between new item kind errors.Failed went did gone goes = absurd goes
faults-by old between new item kind errors.ReadFault went did gone goes = absurd goes
faults-by old between new item kind errors.AfterEnd went did gone goes = absurd goes

-- a step whose outputs were not all taken
pub Faults-sent : (old between new : JobState) (step : StepOutput) (sent : List Sent) (tag : ℕ) (error : JobError) (before after : SinkLog)
    → DoesStep old step between → sent ≡ step.sent.items → new.machine ≡ None
    → WentOut tag (all_outputs sent) (ending_by (Some error)) before after
    → HandsOut (ending_by (Some error)) (Takes old (Err error) new) (under tag before after)
Faults-sent old between new step sent tag error before after (machine, did) is gone sends =
    let P : List Sent → Type 0 = λ these. GoesOut (ending_by (Some error)) sends.went (all_outputs these) in
    record {
      went = sends.went;
      is = faults-by old between new (record { machine = machine; outputs = all_outputs step.sent.items }) step.kind error sends.went did gone (subst P is sends.goes);
      took = WentOut-took tag (all_outputs sent) (ending_by (Some error)) before after sends;
    }

wants-in : (old new : JobState) (item : StepResult) (kind : Kind) → (did : Does old item kind new) → item.outputs ≢ [] → TakesGiven old did.given new → WantsMemory old
wants-in old new item kind did some (inl (next, none, _, _)) = grind (arith, wants-inner, left-none)
wants-in old new item kind did some (inr (inl (command, is, idle, going, _, passes))) =
    inr (command, (idle, going, inl (new.held, passes)), grind (arith, command_is_left, wants-outer))
wants-in old new item kind did some (inr (inr (is, idle, going, _, _, ended, done))) =
    inr (Uel, (idle, going, inr (ended, done, refl)), grind (arith, command_is_left, wants-outer))

pub wants-sent : (old new : JobState) (step : StepOutput) (sent : List Sent) → DoesStep old step new → sent ≡ step.sent.items → all_outputs sent ≢ [] → WantsMemory old
wants-sent old new step sent (machine, did) is some =
    let P : List Sent → Type 0 = λ these. all_outputs these ≢ [] in
    wants-in old new (record { machine = machine; outputs = all_outputs step.sent.items }) step.kind did (subst P is some) did.takes

-- ---- where memory ran out in a step

stopped-before : (given : List Token) (job : JobState) (machine : Machine) → TakesOf job given
    → job.machine ≡ Some machine → left given job.bodies machine ≢ [] → StopsAtDue job ForMemory []
stopped-before given job machine takes is some =
    let (item, others, are) = some-items (left given job.bodies machine) some in
    record { given = given; takes = takes; from = machine; starts = is; item = item; others = others; are = are; goes = (item.outputs, refl) }

-- nothing of what comes next went out
stops-inside : (job : JobState) (machine : Option Machine) → job.machine ≡ machine → InnerNeedsMemory machine job.bodies → StopsAtDue job ForMemory []
stops-inside job None is needs = absurd needs
stops-inside job (Some machine) is (activation, command, rest, outer, all, _) = grind (arith, inner-some, left-none job.bodies machine, stopped-before, next_runs)

stops-at_command : (job : JobState) (command : Token) (machine : Option Machine) → IsDue job command
    → job.machine ≡ machine → NeedsMemory machine command → StopsAtDue job ForMemory []
stops-at_command job command None due is needs = absurd needs
stops-at_command job command (Some machine) due is needs = grind (arith, outer-some, command_is_left job.bodies command machine due.0, stopped-before)

stops-for_memory : (job : JobState) → WantsMemory job → StopsAtDue job ForMemory []
stops-for_memory job (inl needs) = stops-inside job job.machine refl needs
stops-for_memory job (inr (command, due, needs)) = stops-at_command job command job.machine due refl needs

pub Faults-taken : (old new : JobState) (tag : ℕ) (error : JobError) (told : SinkLog) → TakesStep old (Err error) new
    → HandsOut (ending_by (Some error)) (Takes old (Err error) new) (under tag told told)
Faults-taken old new tag errors.NoMemory told takes = record { went = []; is = (takes.1, stops-for_memory old takes.0); took = Took-none tag ForMemory told refl refl }
Faults-taken old new tag errors.Failed told takes = record { went = []; is = (takes.0, takes.1, refl); took = Took-none tag Refused told refl refl }
Faults-taken old new tag errors.SinkFault told takes = absurd takes
Faults-taken old new tag errors.ReplyFault told takes = absurd takes
Faults-taken old new tag errors.ReadFault told takes = absurd takes
Faults-taken old new tag errors.AfterEnd told takes = absurd takes
