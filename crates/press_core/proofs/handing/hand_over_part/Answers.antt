use Rattle.std.proofs.Common.{sym, subst}
use Rattle.press_core.specs.Handing.{HandsOver, handing}
use Rattle.press_core.proofs.HandingLemmas.{sheets_of-copies}
use Rattle.press_core.proofs.handing.hand_over_part.Goals as goal

pub returns-in-Sheet : goal.returns-in-Sheet
returns-in-Sheet g c =
    let finished = c.in-Sheet.finished in
    rw c.in-Sheet.is
    (subst (λ sheets.
    HandsOver sheets c.hand_over_copies.result
    (handing c.args.number (g.S.SheetSink.told c.args.sink.now) (g.S.SheetSink.told c.hand_over_copies.new.sink))
    c.args.delivered.now c.hand_over_copies.new.delivered)
    (sym (sheets_of-copies finished.sheet finished.copies finished.since_job)) c.hand_over_copies.ensures)
