use Rattle.std.proofs.Common.{arith}
use Rattle.press_files.proofs.ListingLemmas.{listed-then}
use Rattle.press_files.proofs.listing_sink.list_more.Goals as goal

pub returns-clause-lists : goal.returns-clause-lists
returns-clause-lists g c = grind (arith, listed-then)
