use Rattle.std.proofs.Common.{arith}
use Rattle.press_canvas.proofs.FrameLemmas.{frame_blank}
use Rattle.press_canvas.proofs.canvas.Canvas.blank.Goals as goal

pub returns : goal.returns
returns c = grind (arith, frame_blank)
