use Rattle.press_engine.proofs.FoldLaws.{one_step_is_the_run}
use Rattle.press_engine.proofs.trace_laws.one_step_is_the_run.Goals as goal

pub returns : goal.returns
returns c = one_step_is_the_run
