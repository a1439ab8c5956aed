use Rattle.std.proofs.Common.{arith}
use Rattle.press_canvas.proofs.FrameLemmas.{page_upright}
use Rattle.press_canvas.proofs.canvas.Canvas.upright.Goals as goal

pub returns-in-Portrait : goal.returns-in-Portrait
returns-in-Portrait c = grind (arith, page_upright)
