use Rattle.std.proofs.Common.{arith}
use Rattle.std.proofs.lemmas.List.{length-map}
use Rattle.press_files.proofs.NumberingLemmas.{sides_of-within}
use Rattle.press_files.proofs.entry_sheets.EntrySheets.next_side.Goals as goal

pub overflow_add-result : goal.overflow_add-result
overflow_add-result c = grind (arith, sides_of-within, length-map)
