use Rattle.std.proofs.Common.{arith}
use Rattle.press_units.proofs.ExitLemmas.{exit-is, exit-was}
use Rattle.press_engine.proofs.ValueLemmas.{takes-ok, takes-stopped, takes-none, outer-some, needs-outer}
use Rattle.press_engine.proofs.engine.Engine.step.Goals as goal

pub returns-in_err-step-clause-takes : goal.returns-in_err-step-clause-takes
returns-in_err-step-clause-takes g c = grind (arith, takes-none, outer-some, exit-is)

pub returns-in_err-hand_over-clause-takes : goal.returns-in_err-hand_over-clause-takes
returns-in_err-hand_over-clause-takes g c = grind (arith, takes-stopped, exit-is)

pub returns-in_err-hand_over-clause-memory : goal.returns-in_err-hand_over-clause-memory
returns-in_err-hand_over-clause-memory g c stops = grind (arith, needs-outer, exit-was)

pub returns-clause-takes : goal.returns-clause-takes
returns-clause-takes g c = grind (arith, takes-ok)
