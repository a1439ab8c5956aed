use Rattle.std.proofs.Common.{subst, reverse, arith}
use Rattle.press_engine.specs.Stack.{IsReady}
use Rattle.press_engine.proofs.StackLemmas.{few-bodies}
use Rattle.press_engine.proofs.bodies.Bodies.is_empty.Goals as goal

pub returns-clause-few : goal.returns-clause-few
returns-clause-few c = grind (arith, few-bodies, reverse)

pub returns-clause-ready : goal.returns-clause-ready
returns-clause-ready c = subst IsReady c.self.view_is c.self.invariant.ready
