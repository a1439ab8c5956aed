use Rattle.std.proofs.Common.{arith}
use Rattle.press_canvas.proofs.DotsLemmas.{landscape_dots}
use Rattle.press_canvas.proofs.frame.Frame.dots.Goals as goal

pub returns-in-Landscape : goal.returns-in-Landscape
returns-in-Landscape c = grind (arith, landscape_dots)
