use Rattle.std.proofs.Common.{Err, refl, sym, ap, subst, arith}
use Rattle.press_stream.specs.Answers.{TakesOn}
use Rattle.press_stream.specs.State.{job_state}
use Rattle.press_stream.specs.declared.fault.JobError.{JobError}
use Rattle.press_stream.specs.declared.phase.Phase.TheVariants.{Failed}
use Rattle.press_stream.proofs.Inside.{job_runs_on, job_stops_on}
use Rattle.press_stream.proofs.job.Job.run_inside.Goals as goal

pub returns-in-Ok : goal.returns-in-Ok
returns-in-Ok c = record {
  takes =
      grind (arith, job_runs_on c.self.inside.scanner c.self.inside.engine c.run_inner.new.self c.self.inside.phase c.args.self.now c.in-Ok.step c.self.view_is c.requires c.in-Ok.ensures.runs);
}

pub returns-in-Err : goal.returns-in-Err
returns-in-Err c =
    let new = job_state c.self.inside.scanner c.run_inner.new.self Failed in
    let stops = c.in-Err.ensures in
    let P : JobError → Type 0 = λ error. TakesOn c.args.self.now (Err error) new in
    record {
      takes =
          subst P (sym c.from.ensures)
          (job_stops_on c.self.inside.scanner c.self.inside.engine c.self.inside.phase c.args.self.now new c.in-Err.fault c.self.view_is c.requires refl
          (λ is. stops.failed.0 (ap Err is)) stops.refused (λ is. stops.memory (ap Err is)));
    }
