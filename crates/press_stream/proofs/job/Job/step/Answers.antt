use Rattle.std.proofs.Common.{◌∙◌, Err, refl, ap}
use Rattle.press_units.proofs.ExitLemmas.{exit-is}
use Rattle.press_sink.specs.SinkLog.{logs}
use Rattle.press_stream.specs.declared.fault.JobError.{JobError}
use Rattle.press_stream.proofs.Carries.{same_fault, Takes-sent, Faults-taken, Faults-sent, wants-sent}
use Rattle.press_stream.proofs.StillLemmas.{stands_still}
use Rattle.press_stream.proofs.job.Job.step.Goals as goal

pub returns-in_err-step-clause-takes : goal.returns-in_err-step-clause-takes
returns-in_err-step-clause-takes g c =
    rw (exit-is c.from_residual.ensures.1) (Faults-taken c.args.self.now c.take_step.new.self c.args.tag _ _ (rw c.in_err-step.was at c.take_step.ensures.takes))

pub returns-in_err-hand_over-in-Ran-clause-takes : goal.returns-in_err-hand_over-in-Ran-clause-takes
returns-in_err-hand_over-in-Ran-clause-takes g c =
    let exit = c.from_residual-in_err-hand_over-in-Ran in
    let hands = c.hand_over in
    rw (exit-is exit.ensures.1) (Faults-sent c.args.self.now c.take_step.new.self hands.new.self c.in-Ran.step c.deref.result.now c.args.tag _ _ _
    (rw (c.in_ok-step.was, c.in-Ran.is) at c.take_step.ensures.takes) c.deref.ensures.value
    (rw c.in_err-hand_over-in-Ran.was at hands.ensures.left) (rw c.in_err-hand_over-in-Ran.was at hands.ensures.hands))

pub returns-in_err-hand_over-in-Ran-clause-memory : goal.returns-in_err-hand_over-in-Ran-clause-memory
returns-in_err-hand_over-in-Ran-clause-memory g c =
    let exit = c.from_residual-in_err-hand_over-in-Ran in
    let hands = c.hand_over in
    rw (exit-is exit.ensures.1) (λ e. wants-sent c.args.self.now c.take_step.new.self c.in-Ran.step c.deref.result.now (rw (c.in_ok-step.was, c.in-Ran.is) at c.take_step.ensures.takes) c.deref.ensures.value
    (hands.ensures.memory (c.in_err-hand_over-in-Ran.was ∙ ap (λ (fault : JobError). Err fault) (same_fault _ _ _ refl e))))

pub returns-in_ok-hand_over-in-Ran-clause-takes : goal.returns-in_ok-hand_over-in-Ran-clause-takes
returns-in_ok-hand_over-in-Ran-clause-takes g c =
    let hands = c.hand_over in
    Takes-sent c.args.self.now c.take_step.new.self c.reuse.new.self c.in-Ran.step c.deref.result.now c.args.tag _ _ (rw (c.in_ok-step.was, c.in-Ran.is) at c.take_step.ensures.takes)
    (c.reuse.ensures ∙ (rw c.in_ok-hand_over-in-Ran.was at hands.ensures.left)) c.deref.ensures.value (rw c.in_ok-hand_over-in-Ran.was at hands.ensures.hands)

pub returns-in_err-step-clause-stands : goal.returns-in_err-step-clause-stands
returns-in_err-step-clause-stands g c =
    let told = logs (g.S.SheetSink.told c.args.sheets.now) (g.P.ReplySink.told c.args.replies.now) in
    let takes = Faults-taken c.args.self.now c.take_step.new.self c.args.tag _ told (rw c.in_err-step.was at c.take_step.ensures.takes) in
    rw (exit-is c.from_residual.ensures.1) (stands_still c.args.self.now c.take_step.new.self _ takes.went c.take_step.ensures.ready takes.is)

pub returns-in_err-hand_over-in-Ran-clause-stands : goal.returns-in_err-hand_over-in-Ran-clause-stands
returns-in_err-hand_over-in-Ran-clause-stands g c =
    let exit = c.from_residual-in_err-hand_over-in-Ran in
    let hands = c.hand_over in
    let takes = Faults-sent c.args.self.now c.take_step.new.self hands.new.self c.in-Ran.step c.deref.result.now c.args.tag _ _ _
    (rw (c.in_ok-step.was, c.in-Ran.is) at c.take_step.ensures.takes) c.deref.ensures.value
    (rw c.in_err-hand_over-in-Ran.was at hands.ensures.left) (rw c.in_err-hand_over-in-Ran.was at hands.ensures.hands) in
    rw (exit-is exit.ensures.1) (stands_still c.args.self.now hands.new.self _ takes.went c.take_step.ensures.ready takes.is)

pub returns-in_ok-hand_over-in-Ran-clause-stands : goal.returns-in_ok-hand_over-in-Ran-clause-stands
returns-in_ok-hand_over-in-Ran-clause-stands g c =
    let hands = c.hand_over in
    let takes = Takes-sent c.args.self.now c.take_step.new.self c.reuse.new.self c.in-Ran.step c.deref.result.now c.args.tag _ _ (rw (c.in_ok-step.was, c.in-Ran.is) at c.take_step.ensures.takes)
    (c.reuse.ensures ∙ (rw c.in_ok-hand_over-in-Ran.was at hands.ensures.left)) c.deref.ensures.value (rw c.in_ok-hand_over-in-Ran.was at hands.ensures.hands) in
    stands_still c.args.self.now c.reuse.new.self _ takes.went c.take_step.ensures.ready takes.is
