-- Each event keeps what is true of every queue.
use Rattle.press_history.proofs.WhileLemmas.{entries-deliver}
use Rattle.press_history.proofs.run_laws.entries_deliver_while_they_run.Goals as goal

pub returns : goal.returns
returns c = entries-deliver c.each_row_keeps_the_queue.ensures
