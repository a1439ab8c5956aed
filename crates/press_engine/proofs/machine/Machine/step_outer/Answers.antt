use Rattle.std.proofs.Common.{inl, inr, subst₂, reverse, arith}
use Rattle.press_engine.proofs.CommandItems.{taking}
use Rattle.press_engine.proofs.EndsLemmas.{begins-from, done-begins, steps-by}
use Rattle.press_engine.proofs.StepLemmas.{goes-memory, no-overlay}
use Rattle.press_engine.proofs.machine.Machine.step_outer.Goals as goal

pub returns-clause-steps : goal.returns-clause-steps
returns-clause-steps c = grind (arith, begins-from, steps-by, reverse)

pub returns-clause-memory : goal.returns-clause-memory
returns-clause-memory c stops = grind (arith, begins-from, inl, inr, no-overlay, goes-memory, taking, subst₂, reverse)

pub returns-then-is_done-clause-steps : goal.returns-then-is_done-clause-steps
returns-then-is_done-clause-steps c = grind (arith, done-begins, begins-from, reverse)
