use Rattle.press_writer.proofs.FewLemmas.{jobs-short}
use Rattle.press_writer.proofs.job_laws.jobs_are_short.Goals as goal

pub returns : goal.returns
returns c = jobs-short
