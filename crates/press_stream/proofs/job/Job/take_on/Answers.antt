use Rattle.press_stream.proofs.Passing.{PassesOn-none}
use Rattle.press_stream.proofs.job.Job.take_on.Goals as goal

pub returns-in_default : goal.returns-in_default
returns-in_default c =
    record { takes = (c.args.self.now, PassesOn-none c.args.self.now c.requires.running (c.is_idle.ensures.none.0 c.if-not-is_idle.false), c.take_step.ensures.takes) }
