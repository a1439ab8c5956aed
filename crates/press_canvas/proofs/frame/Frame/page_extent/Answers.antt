use Rattle.std.proofs.Common.{arith}
use Rattle.press_canvas.proofs.CatchLemmas.{extent_of_page}
use Rattle.press_canvas.proofs.TurnedLemmas.{turned_page-HasNoDotOutside}
use Rattle.press_canvas.proofs.frame.Frame.page_extent.Goals as goal

pub returns-clause-extent : goal.returns-clause-extent
returns-clause-extent c = grind (arith, extent_of_page)

pub returns-clause-inside : goal.returns-clause-inside
returns-clause-inside c = grind (arith, turned_page-HasNoDotOutside)
