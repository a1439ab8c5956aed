-- Hungry is answered exactly where no item of the trace so far is left, and Ended exactly where no step is.
use Rattle.std.proofs.Common.{◌≡◌, ◌∙◌, inl, inr, ℕ, List, [], ◌∷◌, ◌++◌, length, length-append, Option, None, IsSome, Result, Ok, Err, false, true≢false, refl, sym, ap, subst, arith}
use Rattle.std.proofs.lemmas.List.{append-nil}
use Rattle.press_cmd.specs.ParserState.{Exit}
use Rattle.press_cmd.specs.Token.{Token}
use Rattle.press_cmd.specs.Split.{NoHead, SplitFrom}
use Rattle.press_cmd.proofs.Splits.{one_split, some_split, steps-then}
use Rattle.press_sink.specs.Sending.{Output}
use Rattle.press_engine.specs.Machine.{StepResult, power_on}
use Rattle.press_engine.specs.Stack.{continuation, IsReady}
use Rattle.press_engine.specs.Trace.{last_machine, trace}
use Rattle.press_engine.specs.declared.activation.Activation.{Activation}
use Rattle.press_engine.specs.declared.machine.Machine.{Machine}
use Rattle.press_engine.proofs.TraceLaws.{trace-append}
use Rattle.press_stream.specs.declared.fault.JobError.{JobError}
use Rattle.press_stream.specs.declared.fault.JobError.TheVariants as errors
use Rattle.press_stream.specs.declared.step.Step.{Step}
use Rattle.press_stream.specs.declared.step.Step.TheVariants as steps
use Rattle.press_stream.specs.State.{JobState, NeedsInput, IsOver, opened}
use Rattle.press_stream.specs.Meaning.{CarriesOut}
use Rattle.press_stream.specs.Steps.{TakesGiven}
use Rattle.press_stream.specs.Answers.{StandsStill, Takes, TakesOf}
use Rattle.press_stream.specs.Traced.{IsTraceSoFar}
use Rattle.press_stream.proofs.ChainLaws.{by_steps}
use Rattle.press_stream.proofs.Going.{next_runs}
use Rattle.press_stream.proofs.LeftLemmas.{command_owes, ready_owes}

-- ---- a job that is hungry takes no step

-- it runs, no body does, and no command stands at the front of what it holds, which does not end
record IsShort (job : JobState) : Type 0 where
  running : IsSome job.machine
  idle : job.bodies ≡ []
  going : job.held.ended ≡ false
  short : NoHead job.held.mode job.held.bytes

short_of : (job : JobState) → NeedsInput job → IsShort job
short_of job needs = record { running = needs.running; idle = needs.idle; going = needs.going; short = needs.short }

no_machine : (machine : Option Machine) → IsSome machine → machine ≡ None → ⊥
no_machine machine some none = cc

short-takes : (job : JobState) → IsShort job → (given : List Token) → TakesOf job given → ⊥
short-takes job is given (inl body) = body.0 is.idle
short-takes job is given (inr due) = grind (arith, due.1)

short-given : (old new : JobState) → IsShort old → (given : List Token) → TakesGiven old given new → ⊥
short-given old new is given (inl nothing) = next_runs old.bodies nothing.0 is.idle
short-given old new is given (inr (inl held)) = let head = held.5.head is.going in is.short head.0 new.held.bytes held.0 new.held.mode head.1 head.2
short-given old new is given (inr (inr exit)) = true≢false (sym exit.5 ∙ is.going)

hungry : (old new : JobState) (result : Result Step JobError) (went : List Output) → IsShort old → Takes old result new went → result ≡ Ok steps.Hungry
hungry old new (Ok (steps.Ran kind)) went is takes = absurd (short-given old new is takes.1.given takes.1.takes)
hungry old new (Ok steps.Hungry) went is takes = refl
hungry old new (Ok steps.Ended) went is takes = absurd (true≢false (sym takes.0.ended ∙ is.going))
hungry old new (Err errors.Failed) went is takes = absurd (no_machine old.machine is.running takes.0)
hungry old new (Err errors.SinkFault) went is takes = absurd (short-takes old is takes.1.given takes.1.takes)
hungry old new (Err errors.ReplyFault) went is takes = absurd (short-takes old is takes.1.given takes.1.takes)
hungry old new (Err errors.ReadFault) went is takes = absurd (short-takes old is takes.1.given takes.1.takes)
hungry old new (Err errors.AfterEnd) went is takes = absurd (short-takes old is takes.1.given takes.1.takes)
hungry old new (Err errors.NoMemory) went is takes = absurd (short-takes old is takes.1.given takes.1.takes)

-- ---- nor does one that is over

over-takes : (job : JobState) → IsOver job → (given : List Token) → TakesOf job given → ⊥
over-takes job over given (inl body) = body.0 over.idle
over-takes job over given (inr due) = true≢false (sym over.exited ∙ due.1.1)

over-given : (old new : JobState) → IsOver old → (given : List Token) → TakesGiven old given new → ⊥
over-given old new over given (inl nothing) = next_runs old.bodies nothing.0 over.idle
over-given old new over given (inr (inl held)) = true≢false (sym over.exited ∙ held.3)
over-given old new over given (inr (inr exit)) = true≢false (sym over.exited ∙ exit.2)

ended : (old new : JobState) (result : Result Step JobError) (went : List Output) → IsOver old → Takes old result new went → result ≡ Ok steps.Ended
ended old new (Ok (steps.Ran kind)) went over takes = absurd (over-given old new over takes.1.given takes.1.takes)
ended old new (Ok steps.Hungry) went over takes = absurd (true≢false (sym over.ended ∙ takes.0.going))
ended old new (Ok steps.Ended) went over takes = refl
ended old new (Err errors.Failed) went over takes = absurd (no_machine old.machine over.running takes.0)
ended old new (Err errors.SinkFault) went over takes = absurd (over-takes old over takes.1.given takes.1.takes)
ended old new (Err errors.ReplyFault) went over takes = absurd (over-takes old over takes.1.given takes.1.takes)
ended old new (Err errors.ReadFault) went over takes = absurd (over-takes old over takes.1.given takes.1.takes)
ended old new (Err errors.AfterEnd) went over takes = absurd (over-takes old over takes.1.given takes.1.takes)
ended old new (Err errors.NoMemory) went over takes = absurd (over-takes old over takes.1.given takes.1.takes)

-- ---- by the trace of the bytes so far

-- what is as long with others behind it has none
nothing_of : {X : Type 0} (items : List X) → length items ≡ 0 → items ≡ []
nothing_of [] is = refl
nothing_of (item ∷ items) is = absurd (omega (arith, is))

none_behind : (items owed more : List StepResult) → items ≡ (items ++ owed) ++ more → (owed ≡ []) × (more ≡ [])
none_behind items owed more is =
    let whole = ap length is ∙ length-append (items ++ owed) more in
    (nothing_of owed (omega (arith, whole, length-append items owed)), nothing_of more (omega (arith, whole, length-append items owed)))

no_body : (bodies : List Activation) (machine : Machine) → IsReady bodies → continuation bodies machine ≡ [] → bodies ≡ []
no_body bodies machine (inl empty) none = empty
no_body bodies machine (inr next) none = absurd (ready_owes bodies machine next none)

no_command : (commands : List Token) (machine : Machine) → trace commands machine ≡ [] → commands ≡ []
no_command [] machine none = refl
no_command (command ∷ commands) machine none = absurd (command_owes command commands [] machine none)

short-of-traced : (bytes : List ℕ) (given : List Token) (items : List StepResult) (job : JobState) → IsReady job.bodies
    → CarriesOut opened bytes given items job → job.held.ended ≡ false → IsTraceSoFar bytes items → IsShort job
short-of-traced bytes given items job ready goes going (commands, mode, rest, split, are) =
    let begun = by_steps bytes given items job goes in
    let found = some_split job.held.mode job.held.bytes in
    let whole : SplitFrom Exit bytes (given ++ found.commands) found.mode found.rest = record {
      steps = steps-then Exit bytes given found.commands job.held.mode found.mode job.held.bytes found.rest (goes.so_far going).1 found.split.steps;
      short = found.split.short;
    } in
    let same = one_split Exit bytes commands (given ++ found.commands) mode found.mode rest found.rest split whole in
    let at = last_machine power_on (trace given power_on) in
    let owed = continuation job.bodies (last_machine power_on items) in
    let none = none_behind items owed (trace found.commands at)
    grind (arith, are, same.0, trace-append given found.commands power_on, begun.are) in
    record {
      running = subst IsSome (sym goes.ends) refl;
      idle = no_body job.bodies (last_machine power_on items) ready none.0;
      going = going;
      short = grind (arith, no_command found.commands at none.1, found.split);
    }

-- ---- both ways

pub stands_still : (old new : JobState) (result : Result Step JobError) (went : List Output) → IsReady old.bodies → Takes old result new went → StandsStill old result
stands_still old new result went ready takes =
    let P : Result Step JobError → Type 0 = λ answer. Takes old answer new went in
    let needs : result ≡ Ok steps.Hungry → NeedsInput old = λ is. (subst P is takes).0 in
    let over : result ≡ Ok steps.Ended → IsOver old = λ is. (subst P is takes).0 in
    record {
      hungry = (needs, λ is. hungry old new result went (short_of old is) takes);
      over = (over, λ is. ended old new result went is takes);
      traced = λ bytes given items goes going. (
        λ is. grind (arith, append-nil items, needs is),
        λ are. hungry old new result went (short-of-traced bytes given items old ready goes going are) takes,
      );
    }
