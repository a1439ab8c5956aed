use Rattle.press_writer.proofs.FewLemmas.{commands-few, runs-of-plan}
use Rattle.press_writer.proofs.FitLemmas.{plan-fits}
use Rattle.press_writer.proofs.job_writer.JobWriter.open.Goals as goal

pub returns-clause-images : goal.returns-clause-images
returns-clause-images c = record {
  begun = tt;
  parts = plan-fits c.args.ticket.now c.args.images.now c.in_ok-plan.plan c.in_ok-plan.ensures.plan c.in_ok-check.ensures.ok c.in_ok-plan.ensures.within;
}

pub returns-clause-few : goal.returns-clause-few
returns-clause-few c =
    commands-few c.args.ticket.now c.args.images.now c.in_ok-check.ensures.ok c.in_ok-check.ensures.images
    (runs-of-plan c.args.ticket.now c.in_ok-plan.plan c.in_ok-plan.ensures.plan c.in_ok-plan.ensures.small)
