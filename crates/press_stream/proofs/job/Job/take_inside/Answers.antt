use Rattle.std.proofs.Common.{arith}
use Rattle.press_stream.proofs.Inside.{job_ran}
use Rattle.press_stream.proofs.job.Job.take_inside.Goals as goal

pub returns-in-Ok : goal.returns-in-Ok
returns-in-Ok c = record {
  takes =
      grind (arith, job_ran c.self.inside.scanner c.self.inside.engine c.take_inner.new.self c.self.inside.phase c.args.self.now c.in-Ok.step c.self.view_is c.requires c.take_inner.ensures.next c.in-Ok.ensures.steps);
}
