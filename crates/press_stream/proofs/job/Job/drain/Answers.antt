use Rattle.std.proofs.Common.{[], ◌∙◌, Ok, Err, refl, ap, arith}
use Rattle.press_units.proofs.ExitLemmas.{exit-is}
use Rattle.press_sink.proofs.SendingLemmas.{Took-has_fault_room}
use Rattle.press_stream.specs.declared.fault.JobError.{JobError}
use Rattle.press_stream.specs.declared.step.Step.TheVariants as answers
use Rattle.press_stream.proofs.Carries.{same_fault}
use Rattle.press_stream.proofs.Changing.{HandsOut-behind, HandsOut-between}
use Rattle.press_stream.proofs.Going.{CarriesOn-to, taken-ended}
use Rattle.press_stream.proofs.Faults.{HandsOut-goes, HandsOut-step, HandsOut-stopped, idle_of}
use Rattle.press_stream.proofs.RunningOut.{Wants-after}
use Rattle.press_stream.proofs.job.Job.drain.Goals as goal

pub returns-in_err-step_on-clause-drains : goal.returns-in_err-step_on-clause-drains
returns-in_err-step_on-clause-drains g c =
    let so_far = c.loop-self.invariant in
    let on = rw c.in_err-step_on.was at c.step_on.ensures in
    let gone = HandsOut-between c.args.self.now c.loop-self.self c.step_on.new.self (Err _) c.args.tag _ _ _ so_far.still so_far.goes on in
    rw (exit-is c.from_residual-in_err-step_on.ensures.1) (HandsOut-goes c.args.self.now on.is.0 c.step_on.new.self [] [] (Err _) c.args.tag _ _ _ (on.is.1.ended ∙ so_far.still) gone
    (HandsOut-stopped on.is.0 c.step_on.new.self c.args.tag _ _ _ (HandsOut-behind c.loop-self.self c.step_on.new.self (Err _) c.args.tag _ _ on)))

pub returns-in_err-step_on-clause-memory : goal.returns-in_err-step_on-clause-memory
returns-in_err-step_on-clause-memory g c =
    let so_far = c.loop-self.invariant in
    let on = rw c.in_err-step_on.was at c.step_on.ensures in
    let gone = HandsOut-between c.args.self.now c.loop-self.self c.step_on.new.self (Err _) c.args.tag _ _ _ so_far.still so_far.goes on in
    rw (exit-is c.from_residual-in_err-step_on.ensures.1) (λ e.
    (gone.is.0, gone.is.1, on.is.0, gone.is.2, on.is.3 (ap (λ (fault : JobError). Err fault) (same_fault _ _ _ refl e))))

pub returns-in_err-run_out-2-clause-drains : goal.returns-in_err-run_out-2-clause-drains
returns-in_err-run_out-2-clause-drains g c =
    let on = rw (c.in_ok-step_on.was, c.in-Ran.is) at c.step_on.ensures in
    let (item, did, is) = on.is.2 in
    let so_far = c.loop-self.invariant in
    let still = on.is.1.ended ∙ so_far.still in
    let gone = HandsOut-between c.args.self.now c.loop-self.self c.step_on.new.self (Ok (answers.Ran c.in-Ran.field-0)) c.args.tag _ _ _ so_far.still so_far.goes on in
    let goes = HandsOut-goes c.args.self.now on.is.0 c.step_on.new.self [] [] (Ok tt) c.args.tag _ _ _ still gone
    (HandsOut-step on.is.0 c.step_on.new.self c.args.tag (answers.Ran c.in-Ran.field-0) _ _
    (CarriesOn-to c.args.self.now on.is.0 [] gone.went gone.is) (HandsOut-behind c.loop-self.self c.step_on.new.self (Ok (answers.Ran c.in-Ran.field-0)) c.args.tag _ _ on)) in
    rw (exit-is c.from_residual-in_err-run_out-2.ensures.1) (HandsOut-goes c.args.self.now c.step_on.new.self c.run_out-in-Ran.new.self [] [] (Err _) c.args.tag _ _ _
    (taken-ended on.is.0 c.step_on.new.self did.given did.takes ∙ still) goes
    (rw c.in_err-run_out-2.was at c.run_out-in-Ran.ensures.runs_out))

pub returns-in_err-run_out-2-clause-memory : goal.returns-in_err-run_out-2-clause-memory
returns-in_err-run_out-2-clause-memory g c =
    let on = rw (c.in_ok-step_on.was, c.in-Ran.is) at c.step_on.ensures in
    let so_far = c.loop-self.invariant in
    let still = on.is.1.ended ∙ so_far.still in
    let gone = HandsOut-between c.args.self.now c.loop-self.self c.step_on.new.self (Ok (answers.Ran c.in-Ran.field-0)) c.args.tag _ _ _ so_far.still so_far.goes on in
    let goes = HandsOut-goes c.args.self.now on.is.0 c.step_on.new.self [] [] (Ok tt) c.args.tag _ _ _ still gone
    (HandsOut-step on.is.0 c.step_on.new.self c.args.tag (answers.Ran c.in-Ran.field-0) _ _
    (CarriesOn-to c.args.self.now on.is.0 [] gone.went gone.is) (HandsOut-behind c.loop-self.self c.step_on.new.self (Ok (answers.Ran c.in-Ran.field-0)) c.args.tag _ _ on)) in
    rw (exit-is c.from_residual-in_err-run_out-2.ensures.1) (λ e.
    Wants-after c.args.self.now c.step_on.new.self goes.went goes.is
    (c.run_out-in-Ran.ensures.memory (c.in_err-run_out-2.was ∙ ap (λ (fault : JobError). Err fault) (same_fault _ _ _ refl e))))

pub loop-self-preserved : goal.loop-self-preserved
loop-self-preserved g c =
    let on = rw (c.in_ok-step_on.was, c.in-Ran.is) at c.step_on.ensures in
    let (item, did, is) = on.is.2 in
    let out = rw c.in_ok-run_out-2.was at c.run_out-in-Ran.ensures.runs_out in
    let idle = rw c.in_ok-run_out-2.was at c.run_out-in-Ran.ensures.idle in
    let so_far = c.loop-self.invariant in
    let still = on.is.1.ended ∙ so_far.still in
    let ended = taken-ended on.is.0 c.step_on.new.self did.given did.takes ∙ still in
    let gone = HandsOut-between c.args.self.now c.loop-self.self c.step_on.new.self (Ok (answers.Ran c.in-Ran.field-0)) c.args.tag _ _ _ so_far.still so_far.goes on in
    let one = HandsOut-goes c.args.self.now on.is.0 c.step_on.new.self [] [] (Ok tt) c.args.tag _ _ _ still gone
    (HandsOut-step on.is.0 c.step_on.new.self c.args.tag (answers.Ran c.in-Ran.field-0) _ _
    (CarriesOn-to c.args.self.now on.is.0 [] gone.went gone.is) (HandsOut-behind c.loop-self.self c.step_on.new.self (Ok (answers.Ran c.in-Ran.field-0)) c.args.tag _ _ on)) in
    record {
      goes = HandsOut-goes c.args.self.now c.step_on.new.self c.run_out-in-Ran.new.self [] [] (Ok tt) c.args.tag _ _ _ ended one out;
      still = idle.2 ∙ ended;
      has_fault_room = Took-has_fault_room c.args.tag out.went _ _ out.took (Took-has_fault_room c.args.tag on.went _ _ on.took so_far.has_fault_room);
      idle = idle.0;
    }

pub returns-clause-drains : goal.returns-clause-drains
returns-clause-drains g c =
    let on = rw c.in_ok-step_on.was at c.step_on.ensures in
    let so_far = c.loop-self.invariant in
    let gone = HandsOut-between c.args.self.now c.loop-self.self c.step_on.new.self (Ok _) c.args.tag _ _ _ so_far.still so_far.goes on in
    HandsOut-goes c.args.self.now on.is.0 c.step_on.new.self [] [] (Ok tt) c.args.tag _ _ _ (on.is.1.ended ∙ so_far.still) gone
    (HandsOut-step on.is.0 c.step_on.new.self c.args.tag c.in_ok-step_on.field-0 _ _
    (CarriesOn-to c.args.self.now on.is.0 [] gone.went gone.is) (HandsOut-behind c.loop-self.self c.step_on.new.self (Ok _) c.args.tag _ _ on))

pub returns-clause-idle : goal.returns-clause-idle
returns-clause-idle g c = grind (arith, idle_of)
