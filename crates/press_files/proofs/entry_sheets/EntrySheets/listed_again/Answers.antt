use Rattle.std.proofs.Common.{slice_get, arith}
use Rattle.press_files.proofs.AgainLemmas.{told-last}
use Rattle.press_files.proofs.entry_sheets.EntrySheets.listed_again.Goals as goal

pub returns-in-Some-clause-delivered : goal.returns-in-Some-clause-delivered
returns-in-Some-clause-delivered c = grind (arith, slice_get, told-last)
