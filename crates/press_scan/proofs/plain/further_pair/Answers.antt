use Rattle.std.proofs.Common.{arith}
use Rattle.press_scan.proofs.PlainLaws.{further_found}
use Rattle.press_scan.proofs.plain.further_pair.Goals as goal

pub returns : goal.returns
returns c = grind (arith, further_found)
