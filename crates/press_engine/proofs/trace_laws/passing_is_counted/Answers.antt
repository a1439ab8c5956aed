use Rattle.press_engine.proofs.PassingLaws.{passing_is_counted}
use Rattle.press_engine.proofs.trace_laws.passing_is_counted.Goals as goal

pub returns : goal.returns
returns c = passing_is_counted
