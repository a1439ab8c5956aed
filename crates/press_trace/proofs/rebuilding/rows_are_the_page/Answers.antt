use Rattle.press_trace.proofs.RebuiltLemmas.{rows_are_the_page}
use Rattle.press_trace.proofs.rebuilding.rows_are_the_page.Goals as goal

pub returns : goal.returns
returns c = rows_are_the_page
