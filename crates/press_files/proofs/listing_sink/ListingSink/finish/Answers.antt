use mathlib.Core.Logic.{∥∥₁_map}
use Rattle.press_sink.specs.Sending.{sheets_in}
use Rattle.press_files.specs.Listing.{lines_from}
use Rattle.press_files.proofs.ListingLemmas.{listed-stays, listed-then}
use Rattle.press_files.proofs.listing_sink.ListingSink.finish.Goals as goal

pub returns-then-not-written-clause-lists : goal.returns-then-not-written-clause-lists
returns-then-not-written-clause-lists g c =
    ∥∥₁_map c.args.self.lists (λ listed.
    listed-stays c.args.self.written _ _ (lines_from g.D.Unlisted.sums 1 (sheets_in c.args.self.taken)) c.args.replies.now (cc) listed)

pub returns-clause-lists : goal.returns-clause-lists
returns-clause-lists g c =
    ∥∥₁_map c.args.self.lists (λ listed.
    listed-then c.write_flushed.result c.args.self.written c.is_ok-written.result _ _ _ (lines_from g.D.Unlisted.sums 1 (sheets_in c.args.self.taken)) c.args.replies.now
    (cc) c.is_ok-written.ensures.value listed c.write_flushed.ensures.written)
