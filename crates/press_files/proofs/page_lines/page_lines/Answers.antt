use Rattle.std.proofs.Common.{arith}
use Rattle.press_files.proofs.EntryPagesLemmas.{page_lines-behind, slice_range-behind}
use Rattle.press_files.proofs.page_lines.page_lines.Goals as goal

pub returns-in-Some : goal.returns-in-Some
returns-in-Some c = grind (arith, slice_range-behind, page_lines-behind)
