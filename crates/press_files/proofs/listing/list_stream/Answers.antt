use Rattle.press_files.specs.Listed.{held}
use Rattle.std.proofs.Common.{sym}
use Rattle.press_files.proofs.ListingLemmas.{lists-stream}
use Rattle.press_files.proofs.listing.list_stream.Goals as goal

pub returns-clause-lists : goal.returns-clause-lists
returns-clause-lists g c =
    lists-stream g.D.Unlisted.sums c.args.front.now c.print_behind-printed.result c.finish-ended.result.written _ _ _ _
    c.new-sheets.result.taken c.print_behind-printed.new.sheets.taken
    (held c.new-replies.result) (held c.print_behind-printed.new.replies) c.bytes.result.now
    c.new-sheets.ensures c.new-replies.ensures (sym c.bytes.ensures)
    c.print_behind-printed.ensures.printed c.finish-ended.ensures.lists
