use Rattle.std.proofs.Common.{arith}
use Rattle.press_files.proofs.EntryPagesLemmas.{page_lines-without, pages-named}
use Rattle.press_files.proofs.entry_pages.EntryPages.lines_behind.Goals as goal

pub returns-in-Some : goal.returns-in-Some
returns-in-Some g c = grind (arith, pages-named)

pub returns-in-None : goal.returns-in-None
returns-in-None g c = grind (arith, pages-named, page_lines-without)
