-- Each command of a job is one step, and there are few.
use Rattle.press_core.proofs.JobLemmas.{items-few}
use Rattle.press_history.proofs.run_laws.jobs_are_short.Goals as goal

pub returns : goal.returns
returns c = record {
  steps = λ work items printable job.
      items-few work items job (c.jobs_print_their_tickets.ensures work.ticket work.images printable.fits printable.images_are)
      (c.jobs_are_short.ensures.commands work.ticket work.images printable.limits printable.fits printable.images_are);
  sheets = λ ticket images printable. c.jobs_are_short.ensures.sheets ticket images printable.limits;
}
