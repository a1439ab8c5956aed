use Rattle.press_engine.proofs.DepthLaws.{at-most-four}
use Rattle.press_engine.proofs.trace_laws.at_most_four_bodies.Goals as goal

pub returns : goal.returns
returns c = at-most-four
