use Rattle.press_core.specs.Work.{new_work}
use Rattle.press_core.proofs.JobLemmas.{starts_at}
use Rattle.press_core.proofs.work.RunningJob.open.Goals as goal

pub returns-in-Ok-clause-at : goal.returns-in-Ok-clause-at
returns-in-Ok-clause-at c = λ items job_is.
    starts_at c.what_is_left.ensures (new_work c.args.ticket.now c.args.images.now) items c.in_ok-job.job c.in-Ok.writer job_is c.in_ok-job.ensures
    c.in-Ok.ensures.bytes c.in-Ok.ensures.images (c.in-Ok.ensures.prints c.requires) c.in-Ok.ensures.few
