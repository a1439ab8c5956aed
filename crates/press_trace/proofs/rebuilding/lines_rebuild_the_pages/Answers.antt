use Rattle.press_trace.proofs.RebuiltLemmas.{lines_rebuild}
use Rattle.press_trace.proofs.rebuilding.lines_rebuild_the_pages.Goals as goal

pub returns : goal.returns
returns c = lines_rebuild
