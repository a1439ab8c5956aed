-- Steps in a body that runs.
use Rattle.std.proofs.Common.{◌≡◌, ◌≢◌, ◌⊎◌, ◌∙◌, ◌↔◌, List, [], Option, Some, None, Ok, Err, Bool, true, false, if◌then◌else◌, IsTrue, inl, inr, refl, sym, ap, subst, arith}
use Rattle.std.proofs.lemmas.Bool.{false≢true}
use Rattle.press_scan.specs.ScannerState.{ScannerState}
use Rattle.press_engine.specs.declared.step_output.StepOutput.{StepOutput}
use Rattle.press_engine.specs.declared.engine.Engine.{Engine}
use Rattle.press_engine.specs.declared.fault.EngineError.{EngineError}
use Rattle.press_engine.specs.declared.fault.EngineError.TheVariants as engine_errors
use Rattle.press_engine.specs.declared.activation.Activation.{Activation}
use Rattle.press_engine.specs.declared.machine.Machine.{Machine}
use Rattle.press_engine.specs.Engine.{machine_of, bodies, Steps}
use Rattle.press_engine.specs.Running.{GoesOn, RunsInner, ComesToNeedMemory}
use Rattle.press_engine.specs.Stack.{continuation, HasNext}
use Rattle.press_engine.proofs.RunningLaws.{goes_on, was_next, still_next}
use Rattle.press_stream.specs.declared.phase.Phase.{Phase}
use Rattle.press_stream.specs.declared.phase.Phase.TheVariants as phases
use Rattle.press_stream.specs.declared.step.JobStep.TheVariants as steps
use Rattle.press_stream.specs.Answers.{job_error, PassesOn, TakesOn, WantsMemory}
use Rattle.press_stream.specs.State.{JobState, job_state}
use Rattle.press_stream.specs.Steps.{TakesGiven, DoesStep}
use Rattle.press_stream.proofs.Carries.{DoesStep-inside}
use Rattle.press_stream.proofs.Going.{next_runs, taken-so_far, taken-to_end, taken-fewer, taken-ended}
use Rattle.press_stream.proofs.Items.{left-none}

-- what tells whether no body runs
pub not_idle : (idle : Bool) (activations : List Activation) → (IsTrue idle ↔ (activations ≡ [])) → idle ≡ false → activations ≢ []
not_idle idle activations tells is none = absurd (false≢true (sym is ∙ tells.1 none))

-- a body runs in its engine
pub engine_inside : (held : ScannerState) (engine : Engine) (phase : Phase) → (job_state held engine phase).bodies ≢ [] → bodies engine ≢ []
engine_inside held engine phases.Running inside = inside
engine_inside held engine phases.Exited inside = inside
engine_inside held engine phases.Failed inside = absurd (inside refl)

module _ (held : ScannerState) (engine new : Engine) where
  -- a step that was taken
  ran : (phase : Phase) (step : StepOutput) → (job_state held engine phase).bodies ≢ [] → HasNext (bodies engine)
      → Steps (machine_of engine) (continuation (bodies engine)) step (machine_of new) (bodies new)
      → DoesStep (job_state held engine phase) step (job_state held new phase)
  ran phases.Running step inside next s = DoesStep-inside (job_state held engine phases.Running) (job_state held new phases.Running) step (next, refl, refl, refl) s
  ran phases.Exited step inside next s = DoesStep-inside (job_state held engine phases.Exited) (job_state held new phases.Exited) step (next, refl, refl, refl) s
  ran phases.Failed step inside next s = absurd (inside refl)

  -- the same of the job that these stand for
  pub job_ran : (phase : Phase) (job : JobState) (step : StepOutput) → job_state held engine phase ≡ job → job.bodies ≢ []
      → HasNext (bodies engine) → Steps (machine_of engine) (continuation (bodies engine)) step (machine_of new) (bodies new)
      → DoesStep job step (job_state held new phase)
  job_ran phase job step is =
      let P : JobState → Type 0 =
      λ one.
      one.bodies ≢ [] → HasNext (bodies engine)
      → Steps (machine_of engine) (continuation (bodies engine)) step (machine_of new) (bodies new)
      → DoesStep one step (job_state held new phase) in
      subst P is (ran phase step)

-- ---- commands of a body that a job takes at once

-- the innermost body goes on by commands that do no more than change the machine
passes_inside : (old new : JobState) (before after : Machine) → old.machine ≡ Some before → new.machine ≡ Some after
    → GoesOn old.bodies before new.bodies after → new.held ≡ old.held → new.exited ≡ old.exited → PassesOn old new
passes_inside old new before after was is goes held exited =
    let passes = goes_on old.bodies new.bodies before after goes in
    let next = was_next old.bodies new.bodies before after goes in
    let takes : TakesGiven old [] new = inl (next, refl, held, exited) in
    record {
      goes = (
        [],
        passes.items,
        record {
          so_far = taken-so_far old new [] takes;
          to_end = taken-to_end old new [] takes;
          from = before;
          starts = was;
          ends = is ∙ ap (λ (machine : Machine). Some machine) (sym passes.ends);
          are = grind (arith, left-none);
        },
        sym passes.nothing,
      );
      idle = λ none. absurd (next_runs old.bodies next none);
      inside = λ _. (refl, next_runs new.bodies (still_next old.bodies new.bodies before after goes));
      fewer = omega (arith, taken-fewer old new [] takes);
      ended = taken-ended old new [] takes;
    }

-- and then a step was taken
run_on : (old new : JobState) (step : StepOutput) → RunsInner old.machine old.bodies step new.machine new.bodies → new.held ≡ old.held → new.exited ≡ old.exited
    → TakesOn old (Ok (steps.Ran step)) new
run_on old new step runs held exited =
    let on = runs.runs in
    let between : JobState = record old { machine = Some on.between; bodies = on.left } in
    let next = still_next old.bodies on.left runs.before on.between on.goes in (
      between,
      passes_inside old between runs.before on.between runs.was refl on.goes refl refl,
      DoesStep-inside between new step (next, refl, held, exited)
          (record { before = on.between; after = runs.after; was = refl; is = runs.is; steps = on.steps }),
    )

pub job_runs_on : (held : ScannerState) (engine new : Engine) (phase : Phase) (job : JobState) (step : StepOutput) → job_state held engine phase ≡ job → job.bodies ≢ []
    → RunsInner (machine_of engine) (bodies engine) step (machine_of new) (bodies new) → TakesOn job (Ok (steps.Ran step)) (job_state held new phase)
job_runs_on held engine new phase job step is inside runs = grind (arith, run_on)

-- or memory ran out there
abbrev WantsOn : JobState → Type 0
WantsOn job = (between : JobState) × PassesOn job between × WantsMemory between

comes_to : (job : JobState) (machine : Option Machine) → job.machine ≡ machine → ComesToNeedMemory machine job.bodies → WantsOn job
comes_to job None is needs = absurd needs
comes_to job (Some machine) is (left, between, goes, takes) =
    (record job { machine = Some between; bodies = left }, passes_inside job (record job { machine = Some between; bodies = left }) machine between is refl goes refl refl, inl takes)

pub job_wants_on : (held : ScannerState) (engine : Engine) (phase : Phase) (job : JobState) → job_state held engine phase ≡ job → job.bodies ≢ []
    → ComesToNeedMemory (machine_of engine) (bodies engine) → WantsOn job
job_wants_on held engine phase job is inside needs =
    let P : JobState → Type 0 = λ one. one.bodies ≢ [] → WantsOn one in
    subst P is (by phase) inside where
      by : (phase : Phase) → (job_state held engine phase).bodies ≢ [] → WantsOn (job_state held engine phase)
      by phases.Running some = comes_to (job_state held engine phases.Running) (machine_of engine) refl needs
      by phases.Exited some = comes_to (job_state held engine phases.Exited) (machine_of engine) refl needs
      by phases.Failed some = absurd (some refl)

failed-idle : (failed : Bool) (machine : Machine) (running : List Activation) → (if failed then None else Some machine) ≡ None → (if failed then [] else running) ≡ []
failed-idle true machine running is = refl
failed-idle false machine running is = absurd cc

-- an engine in which a body runs has not failed
pub job_stops_on : (held : ScannerState) (engine : Engine) (phase : Phase) (job new : JobState) (error : EngineError) → job_state held engine phase ≡ job → job.bodies ≢ []
    → new.machine ≡ None → (error ≡ engine_errors.Failed → machine_of engine ≡ None) → (error ≡ engine_errors.Failed) ⊎ (error ≡ engine_errors.NoMemory)
    → (error ≡ engine_errors.NoMemory → ComesToNeedMemory (machine_of engine) (bodies engine)) → TakesOn job (Err (job_error error)) new
job_stops_on held engine phase job new engine_errors.NoMemory is inside gone failed refused needs =
    grind (arith, job_wants_on held engine phase job is inside (needs refl))
job_stops_on held engine phase job new engine_errors.Failed is inside gone failed refused needs = grind (arith, engine_inside, failed-idle)
job_stops_on held engine phase job new engine_errors.SinkFault is inside gone failed refused needs = elim refused [ inl e ↦ absurd cc | inr e ↦ absurd cc ]
job_stops_on held engine phase job new engine_errors.ReplyFault is inside gone failed refused needs = elim refused [ inl e ↦ absurd cc | inr e ↦ absurd cc ]
