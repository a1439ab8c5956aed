use Rattle.std.proofs.Common.{◌<◌, length, subst, sym}
use Rattle.press_core.proofs.JobLemmas.{goes_on_after, not_ended}
use Rattle.press_core.proofs.work.RunningJob.step.Goals as goal

pub unreachable-requires : goal.unreachable-requires
unreachable-requires c =
    let items = c.requires.at.0 in
    not_ended c.what_is_left.ensures items c.args.images.now c.in-Ok-Ended.field-0 c.loop-step.self c.take_step.new.self
    (c.loop-step.invariant.stands items c.requires.at.1) (subst (λ n. n < length items) (sym c.loop-step.invariant.steps) c.requires.at.2) c.in-Ok-Ended.field-0-is c.in-Ok-Ended.ensures.takes

pub returns-in-Ok-Ran : goal.returns-in-Ok-Ran
returns-in-Ok-Ran c = λ items at.
    goes_on_after c.what_is_left.ensures items c.args.images.now c.in-Ok-Ran.step c.in-Ok-Ran.field-0 c.args.self.now c.loop-step.self c.take_step.new.self
    (c.loop-step.invariant.stands items at) c.loop-step.invariant.steps c.in-Ok-Ran.field-0-is c.in-Ok-Ran.ensures.takes
