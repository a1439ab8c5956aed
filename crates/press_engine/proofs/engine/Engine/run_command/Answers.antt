use Rattle.std.proofs.Common.{arith}
use Rattle.press_units.proofs.ExitLemmas.{exit-is, exit-was}
use Rattle.press_engine.proofs.ItemsLemmas.{ready-some}
use Rattle.press_engine.proofs.WholeLemmas.{next-leaves, stop-leaves, none-leaves, runs-of, runs-stopped, alive-then, counts-then, fewer-steps, wants-more, failed-none, stopped-none}
use Rattle.press_engine.proofs.engine.Engine.run_command.Goals as goal

pub returns-in_err-step-clause-runs : goal.returns-in_err-step-clause-runs
returns-in_err-step-clause-runs g c = grind (arith, runs-stopped, exit-is)

pub returns-in_err-step-clause-none : goal.returns-in_err-step-clause-none
returns-in_err-step-clause-none g c = grind (arith, failed-none, stopped-none)

pub loop-self-init : goal.loop-self-init
loop-self-init g c = grind (arith, counts-then, alive-then, wants-more, runs-of, next-leaves)

pub loop-self-smaller : goal.loop-self-smaller
loop-self-smaller g c = grind (arith, fewer-steps)

pub loop-self-preserved : goal.loop-self-preserved
loop-self-preserved g c = grind (arith, counts-then, alive-then, ready-some, next-leaves)

pub returns-in_err-step_inner-clause-runs : goal.returns-in_err-step_inner-clause-runs
returns-in_err-step_inner-clause-runs g c = grind (arith, stop-leaves, exit-is)

pub returns-in_err-step_inner-clause-failed : goal.returns-in_err-step_inner-clause-failed
returns-in_err-step_inner-clause-failed g c = grind (arith, exit-was)

pub returns-in_err-step_inner-clause-memory : goal.returns-in_err-step_inner-clause-memory
returns-in_err-step_inner-clause-memory g c stops = grind (arith, ready-some)

pub returns-in_err-step_inner-clause-none : goal.returns-in_err-step_inner-clause-none
returns-in_err-step_inner-clause-none g c = grind (arith, failed-none, stopped-none)

pub returns-clause-runs : goal.returns-clause-runs
returns-clause-runs g c = grind (arith, none-leaves)
