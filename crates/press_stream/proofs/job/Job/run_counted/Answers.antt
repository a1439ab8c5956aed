use Rattle.press_units.proofs.ExitLemmas.{exit-is}
use Rattle.press_stream.proofs.RunLemmas.{RunsReader-refused}
use Rattle.press_stream.proofs.job.Job.run_counted.Goals as goal

pub returns-in_err-check_going-clause-runs : goal.returns-in_err-check_going-clause-runs
returns-in_err-check_going-clause-runs g c =
    rw (exit-is c.from_residual.ensures.1) (RunsReader-refused c.args.self.now (g.R.ReadDevice.remaining c.args.reader.now) c.args.tag _ _
    (rw c.in_err-check_going.was at c.check_going.ensures))
