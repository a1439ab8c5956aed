use Rattle.std.proofs.Common.{drop-cons, add-one, arith}
use Rattle.press_trace.proofs.SentLemmas.{count_more}
use Rattle.press_trace.proofs.sent.sheets_in.Goals as goal

pub loop-part-preserved : goal.loop-part-preserved
loop-part-preserved c = grind (arith, drop-cons, add-one, count_more)
