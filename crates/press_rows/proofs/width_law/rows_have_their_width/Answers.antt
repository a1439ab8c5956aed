use Rattle.press_rows.proofs.WidthLemmas.{rows-width}
use Rattle.press_rows.proofs.width_law.rows_have_their_width.Goals as goal

pub returns : goal.returns
returns c = rows-width
