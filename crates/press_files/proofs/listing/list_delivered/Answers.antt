use Rattle.std.proofs.Common.{arith}
use Rattle.press_files.proofs.EntryLines.{entry_lines-listing}
use Rattle.press_files.proofs.listing.list_delivered.Goals as goal

pub returns-clause-written : goal.returns-clause-written
returns-clause-written g c = grind (arith, entry_lines-listing)
