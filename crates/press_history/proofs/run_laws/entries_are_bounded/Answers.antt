-- Each event keeps what is true of every queue.
use Rattle.press_history.proofs.RunLemmas.{entries-are-bounded}
use Rattle.press_history.proofs.run_laws.entries_are_bounded.Goals as goal

pub returns : goal.returns
returns c = entries-are-bounded c.each_row_keeps_the_queue.ensures
