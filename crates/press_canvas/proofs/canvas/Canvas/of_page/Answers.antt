use Rattle.press_canvas.proofs.FrameLemmas.{page_upright}
use Rattle.press_canvas.proofs.canvas.Canvas.of_page.Goals as goal

pub returns : goal.returns
returns c = page_upright c.args.page c.width-width.ensures.inside
