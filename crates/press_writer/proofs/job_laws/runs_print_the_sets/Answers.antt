use Rattle.press_writer.proofs.RunLemmas.{runs_print}
use Rattle.press_writer.proofs.job_laws.runs_print_the_sets.Goals as goal

pub returns : goal.returns
returns c = runs_print
