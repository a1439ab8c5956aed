use Rattle.std.proofs.Common.{arith}
use Rattle.press_trace.proofs.StepLemmas.{told_same}
use Rattle.press_trace.proofs.tracer.Tracer.page_told.Goals as goal

pub returns-in-Nothing-clause-told : goal.returns-in-Nothing-clause-told
returns-in-Nothing-clause-told c = grind (arith, told_same)
