use Rattle.std.proofs.Common.{arith}
use Rattle.press_sink.proofs.OutputsLemmas.{outputs_in-last}
use Rattle.press_sink.proofs.list_outputs.ListOutputs.keep.Goals as goal

pub returns-in-Some : goal.returns-in-Some
returns-in-Some c = grind (arith, outputs_in-last)
