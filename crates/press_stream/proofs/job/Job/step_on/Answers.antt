use Rattle.std.proofs.Common.{◌∙◌, Ok, Err, refl, ap}
use Rattle.press_units.proofs.ExitLemmas.{exit-is}
use Rattle.press_stream.specs.declared.fault.JobError.{JobError}
use Rattle.press_stream.specs.declared.step.Step.TheVariants as answers
use Rattle.press_stream.proofs.Carries.{same_fault, Takes-sent, Faults-taken, Faults-sent, wants-sent}
use Rattle.press_stream.proofs.Changing.{HandsOut-on, wants-taken}
use Rattle.press_stream.proofs.job.Job.step_on.Goals as goal

pub returns-in_err-taken : goal.returns-in_err-taken
returns-in_err-taken g c =
    let on = rw c.in_err-taken.was at c.take_on.ensures.takes in
    rw (exit-is c.from_residual.ensures.1) (HandsOut-on c.args.self.now on.0 c.take_on.new.self (Err _) c.args.tag _ _ on.1
    (λ e. wants-taken on.0 c.take_on.new.self _ on.2 (same_fault _ _ _ refl e))
    (Faults-taken on.0 c.take_on.new.self c.args.tag _ _ on.2))

pub returns-in_err-hand_over-in-Ran : goal.returns-in_err-hand_over-in-Ran
returns-in_err-hand_over-in-Ran g c =
    let exit = c.from_residual-in_err-hand_over-in-Ran in
    let hands = c.hand_over in
    let on = rw (c.in_ok-taken.was, c.in-Ran.is) at c.take_on.ensures.takes in
    rw (exit-is exit.ensures.1) (HandsOut-on c.args.self.now on.0 hands.new.self (Err _) c.args.tag _ _ on.1
    (λ e. wants-sent on.0 c.take_on.new.self c.in-Ran.taken c.deref.result.now on.2 c.deref.ensures.value
    (hands.ensures.memory (c.in_err-hand_over-in-Ran.was ∙ ap (λ (fault : JobError). Err fault) (same_fault _ _ _ refl e))))
    (Faults-sent on.0 c.take_on.new.self hands.new.self c.in-Ran.taken c.deref.result.now c.args.tag _ _ _ on.2 c.deref.ensures.value
    (rw c.in_err-hand_over-in-Ran.was at hands.ensures.left) (rw c.in_err-hand_over-in-Ran.was at hands.ensures.hands)))

pub returns-in_ok-hand_over-in-Ran : goal.returns-in_ok-hand_over-in-Ran
returns-in_ok-hand_over-in-Ran g c =
    let hands = c.hand_over in
    let on = rw (c.in_ok-taken.was, c.in-Ran.is) at c.take_on.ensures.takes in
    HandsOut-on c.args.self.now on.0 c.reuse.new.self (Ok (answers.Ran c.in-Ran.taken.kind)) c.args.tag _ _ on.1 (λ e. absurd (cc))
    (Takes-sent on.0 c.take_on.new.self c.reuse.new.self c.in-Ran.taken c.deref.result.now c.args.tag _ _ on.2
    (c.reuse.ensures ∙ (rw c.in_ok-hand_over-in-Ran.was at hands.ensures.left)) c.deref.ensures.value (rw c.in_ok-hand_over-in-Ran.was at hands.ensures.hands))
