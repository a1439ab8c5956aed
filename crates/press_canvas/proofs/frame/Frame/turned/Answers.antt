use Rattle.std.proofs.Common.{arith}
use Rattle.press_canvas.proofs.FrameLemmas.{page_upright}
use Rattle.press_canvas.proofs.frame.Frame.turned.Goals as goal

pub returns-in-Portrait-clause-page : goal.returns-in-Portrait-clause-page
returns-in-Portrait-clause-page c = grind (arith, page_upright)
