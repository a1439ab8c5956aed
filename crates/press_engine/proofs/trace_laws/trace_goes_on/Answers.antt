use Rattle.press_engine.proofs.FoldLaws.{trace_goes_on}
use Rattle.press_engine.proofs.trace_laws.trace_goes_on.Goals as goal

pub returns : goal.returns
returns c = trace_goes_on
