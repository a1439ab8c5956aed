use Rattle.std.proofs.Common.{◌∙◌, Err, ap}
use Rattle.press_engine.proofs.SendsLemmas.{deliver-sends}
use Rattle.press_engine.proofs.sender.deliver.Goals as goal

pub returns-in-Ok : goal.returns-in-Ok
returns-in-Ok g c =
    rw c.in-Ok.is at
    (deliver-sends (g.S.SheetSink.told c.args.sheets.now) (g.S.SheetSink.told c.hand.new.sheets) c.args.tag c.args.sheet.now
    c.hand.result c.hand.ensures (g.R.ReplySink.told c.args.replies.now))

pub returns-in-Err-SinkFault : goal.returns-in-Err-SinkFault
returns-in-Err-SinkFault g c =
    rw (c.in-Err-SinkFault.is ∙ ap Err c.in-Err-SinkFault.field-0-is) at
    (deliver-sends (g.S.SheetSink.told c.args.sheets.now) (g.S.SheetSink.told c.hand.new.sheets) c.args.tag c.args.sheet.now
    c.hand.result c.hand.ensures (g.R.ReplySink.told c.args.replies.now))

pub returns-in-Err-NoMemory : goal.returns-in-Err-NoMemory
returns-in-Err-NoMemory g c =
    rw (c.in-Err-NoMemory.is ∙ ap Err c.in-Err-NoMemory.field-0-is) at
    (deliver-sends (g.S.SheetSink.told c.args.sheets.now) (g.S.SheetSink.told c.hand.new.sheets) c.args.tag c.args.sheet.now
    c.hand.result c.hand.ensures (g.R.ReplySink.told c.args.replies.now))
