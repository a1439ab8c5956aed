-- Commands that do no more than change the machine, which a job takes at once.
use Rattle.std.proofs.Common.{◌≡◌, ◌∙◌, ℕ, [], ◌∷◌, true, false, Some, Result, Ok, Err, IsErrOf, refl, sym, ap, arith}
use Rattle.press_cmd.specs.Token.{Token}
use Rattle.press_scan.specs.Gives.{Passes}
use Rattle.press_sink.specs.SinkLog.{SinkLog, under}
use Rattle.press_sink.specs.Sending.{Complete, HandsOut}
use Rattle.press_engine.specs.Changing.{Changed}
use Rattle.press_engine.specs.Machine.{StepResult}
use Rattle.press_engine.proofs.ChangingLaws.{change_runs}
use Rattle.press_stream.specs.declared.fault.JobError.{JobError}
use Rattle.press_stream.specs.declared.fault.JobError.TheVariants as errors
use Rattle.press_stream.specs.declared.step.Step.{Step}
use Rattle.press_stream.specs.Answers.{PassesOn, Takes, TakesStep, StepsOn, WantsMemory, ending_by, fault_of}
use Rattle.press_stream.specs.State.{JobState}
use Rattle.press_stream.specs.Meaning.{CarriesOn}
use Rattle.press_stream.proofs.Faults.{HandsOut-goes, HandsOut-nothing}
use Rattle.press_stream.proofs.Going.{CarriesOn-after}
use Rattle.press_stream.proofs.Passing.{passes_on}

-- commands, and then others
pub PassesOn-then : (old between new : JobState) → old.bodies ≡ [] → PassesOn old between → PassesOn between new → PassesOn old new
PassesOn-then old between new none first second = record {
  goes = CarriesOn-after old between new [] [] [] first.goes second.goes;
  idle = λ _. second.idle (first.idle none);
  inside = λ some. absurd (some none);
  fewer = omega (arith, first.fewer, second.fewer);
  ended = second.ended ∙ first.ended;
}

-- one such command
pub PassesOn-one : (old new : JobState) (command : Token) → old.exited ≡ false → new.exited ≡ false → old.bodies ≡ [] → new.bodies ≡ []
    → Passes old.held command new.held → Changed true command old.machine new.machine → PassesOn old new
PassesOn-one old new command going still idle none passes changed =
    let runs = change_runs command changed.before changed.after changed.does in
    passes_on old new going still idle none (record {
      given = command ∷ [];
      each = (new.held, passes, refl);
      from = changed.before;
      starts = changed.was;
      ends = changed.is ∙ ap (λ (r : StepResult). Some r.machine) (sym runs);
      nothing = ap (λ (r : StepResult). r.outputs) runs;
    })

-- a step behind such commands, as what went out in it
pub HandsOut-on : (old between new : JobState) (result : Result Step JobError) (tag : ℕ) (before after : SinkLog) → PassesOn old between
    → (IsErrOf result errors.NoMemory → WantsMemory between)
    → HandsOut (ending_by (fault_of result)) (Takes between result new) (under tag before after)
    → HandsOut (ending_by (fault_of result)) (StepsOn old result new) (under tag before after)
HandsOut-on old between new result tag before after goes wants hands = record { went = hands.went; is = (between, goes, hands.is, wants); took = hands.took }

pub HandsOut-behind : (old new : JobState) (result : Result Step JobError) (tag : ℕ) (before after : SinkLog)
    → (hands : HandsOut (ending_by (fault_of result)) (StepsOn old result new) (under tag before after))
    → HandsOut (ending_by (fault_of result)) (Takes hands.is.0 result new) (under tag before after)
HandsOut-behind old new result tag before after hands = record { went = hands.went; is = hands.is.2; took = hands.took }

-- what goes on to the step
pub HandsOut-between : (first old new : JobState) (result : Result Step JobError) (tag : ℕ) (before middle after : SinkLog)
    → old.held.ended ≡ first.held.ended → HandsOut Complete (CarriesOn first [] old) (under tag before middle)
    → (hands : HandsOut (ending_by (fault_of result)) (StepsOn old result new) (under tag middle after))
    → HandsOut Complete (CarriesOn first [] hands.is.0) (under tag before middle)
HandsOut-between first old new result tag before middle after still goes hands =
    HandsOut-goes first old hands.is.0 [] [] (Ok tt) tag before middle middle still goes (HandsOut-nothing old hands.is.0 [] tag middle hands.is.1.goes)

-- where memory ran out, what came next may take some
pub wants-taken : (old new : JobState) (error : JobError) → TakesStep old (Err error) new → error ≡ errors.NoMemory → WantsMemory old
wants-taken old new errors.NoMemory takes is = takes.0
wants-taken old new errors.Failed takes is = absurd (cc)
wants-taken old new errors.SinkFault takes is = absurd takes
wants-taken old new errors.ReplyFault takes is = absurd takes
wants-taken old new errors.ReadFault takes is = absurd takes
wants-taken old new errors.AfterEnd takes is = absurd takes
