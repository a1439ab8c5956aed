use Rattle.press_units.proofs.ExitLemmas.{exit-is}
use Rattle.press_stream.proofs.Faults.{HandsOut-step, HandsOut-stopped}
use Rattle.press_stream.proofs.ChainLemmas.{pushed}
use Rattle.press_stream.proofs.calls.make.Goals as goal

pub returns-in-Push-clause-goes : goal.returns-in-Push-clause-goes
returns-in-Push-clause-goes g c =
    rw c.in-Push.is (pushed c.args.job.now c.push.new.self c.in-Push.piece.now c.args.tag c.push.result _ c.requires.running c.requires.going c.push.ensures.pushes)

pub returns-in_ok-step-in-Step-clause-goes : goal.returns-in_ok-step-in-Step-clause-goes
returns-in_ok-step-in-Step-clause-goes g c =
    rw c.in-Step.is (HandsOut-step c.args.job.now c.step.new.self c.args.tag c.in_ok-step-in-Step.field-0 _ _ c.requires.running c.in_ok-step-in-Step.ensures.takes)

pub returns-in_err-step-in-Step-clause-goes : goal.returns-in_err-step-in-Step-clause-goes
returns-in_err-step-in-Step-clause-goes g c =
    rw (exit-is c.from_residual.ensures.1)
    (rw c.in-Step.is (HandsOut-stopped c.args.job.now c.step.new.self c.args.tag c.in_err-step-in-Step.field-0.0 _ _ c.in_err-step-in-Step.ensures.takes))
