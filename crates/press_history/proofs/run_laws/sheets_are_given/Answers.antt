-- By the account of each number in a run.
use Rattle.press_history.proofs.RunLemmas.{sheets-are-given}
use Rattle.press_history.proofs.run_laws.sheets_are_given.Goals as goal

pub returns : goal.returns
returns c = sheets-are-given c.jobs_hand_out_the_wanted_sheets.ensures c.jobs_are_short.ensures c.each_row_keeps_the_queue.ensures
