use Rattle.std.proofs.Common.{add-one, append_assoc}
use Rattle.press_ticket.specs.Pages.{pages_of}
use Rattle.press_ticket.proofs.PageLemmas.{take_next}
use Rattle.press_ticket.proofs.page_range.push_pages.Goals as goal

pub loop-index-preserved : goal.loop-index-preserved
loop-index-preserved c =
    let next = take_next (pages_of c.args.range) c.loop-index.index c.page.result c.page.ensures.value in
    rw (add-one, next, ← append_assoc, ← c.loop-index.invariant) c.in_ok-push.ensures.items
