-- By the account of each number in a run.
use Rattle.press_history.proofs.RunLemmas.{entries-do-not-interfere}
use Rattle.press_history.proofs.run_laws.entries_do_not_interfere.Goals as goal

pub returns : goal.returns
returns c = entries-do-not-interfere c.each_row_keeps_the_queue.ensures
