use Rattle.std.proofs.Common.{◌∙◌, Err, ap}
use Rattle.press_engine.proofs.SendsLemmas.{reply-sends}
use Rattle.press_engine.proofs.sender.reply.Goals as goal

pub returns-in-Ok : goal.returns-in-Ok
returns-in-Ok g c =
    rw c.in-Ok.is at
    (reply-sends (g.R.ReplySink.told c.args.replies.now) (g.R.ReplySink.told c.reply.new.self) c.args.tag c.args.bytes.now
    c.reply.result c.reply.ensures (g.S.SheetSink.told c.args.sheets.now))

pub returns-in-Err-ReplyFault : goal.returns-in-Err-ReplyFault
returns-in-Err-ReplyFault g c =
    rw (c.in-Err-ReplyFault.is ∙ ap Err c.in-Err-ReplyFault.field-0-is) at
    (reply-sends (g.R.ReplySink.told c.args.replies.now) (g.R.ReplySink.told c.reply.new.self) c.args.tag c.args.bytes.now
    c.reply.result c.reply.ensures (g.S.SheetSink.told c.args.sheets.now))

pub returns-in-Err-NoMemory : goal.returns-in-Err-NoMemory
returns-in-Err-NoMemory g c =
    rw (c.in-Err-NoMemory.is ∙ ap Err c.in-Err-NoMemory.field-0-is) at
    (reply-sends (g.R.ReplySink.told c.args.replies.now) (g.R.ReplySink.told c.reply.new.self) c.args.tag c.args.bytes.now
    c.reply.result c.reply.ensures (g.S.SheetSink.told c.args.sheets.now))
