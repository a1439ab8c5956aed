use Rattle.std.proofs.Common.{arith}
use Rattle.press_pbm.proofs.LineLemmas.{bit}
use Rattle.press_trace.proofs.PageLemmas.{byte_is}
use Rattle.press_trace.proofs.rows.byte_at.Goals as goal

pub returns : goal.returns
returns c = grind (arith, byte_is, bit)
