use Rattle.std.proofs.Common.{reverse, arith}
use Rattle.press_engine.proofs.EndsLemmas.{unwind-none}
use Rattle.press_engine.proofs.machine.Machine.end_step.Goals as goal

pub returns-then-not-is_top_used_up-clause-steps : goal.returns-then-not-is_top_used_up-clause-steps
returns-then-not-is_top_used_up-clause-steps c = grind (arith, reverse, unwind-none)

pub returns-clause-steps : goal.returns-clause-steps
returns-clause-steps c = grind (arith, reverse)
