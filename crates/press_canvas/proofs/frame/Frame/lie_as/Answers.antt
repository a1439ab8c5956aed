use Rattle.std.proofs.Common.{arith}
use Rattle.press_canvas.proofs.FrameLemmas.{page_laid}
use Rattle.press_canvas.proofs.frame.Frame.lie_as.Goals as goal

pub returns-clause-same : goal.returns-clause-same
returns-clause-same c = grind (arith, page_laid)
