use Rattle.std.proofs.Common.{◌∙◌, sym}
use Rattle.press_files.proofs.ListingLemmas.{lists-printed, status-written}
use Rattle.press_files.proofs.listing.list_by.Goals as goal

pub returns-then-stream-clause-lists : goal.returns-then-stream-clause-lists
returns-then-stream-clause-lists g c = λ zero.
    let stream = c.list_lent-out.result.1 in
    lists-printed g.D.Unlisted.sums c.args.front.now stream.printed stream.written (g.R.ReadDevice.remaining c.args.reader.now) _ g.D.Unlisted.begun
    (g.W.WriteDevice.contents c.list_lent-out.result.0.now) c.list_lent-out.ensures.lists
    (sym (status-written stream.printed stream.written c.told_status-status.result c.if-stream.true c.told_status-status.ensures.status)
    ∙ zero)
