use Rattle.std.proofs.Common.{arith}
use Rattle.press_canvas.proofs.CatchLemmas.{dot_of_page}
use Rattle.press_canvas.proofs.frame.Frame.get.Goals as goal

pub returns : goal.returns
returns c = grind (arith, dot_of_page)
