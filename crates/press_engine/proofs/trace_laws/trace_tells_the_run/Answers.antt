use Rattle.press_engine.proofs.FoldLaws.{trace_tells_the_run}
use Rattle.press_engine.proofs.trace_laws.trace_tells_the_run.Goals as goal

pub returns : goal.returns
returns c = trace_tells_the_run
