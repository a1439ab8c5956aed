use Rattle.std.proofs.Common.{append_assoc}
use Rattle.std.proofs.Common.{arith, ap, drop, sym, take, take-append-drop}
use Rattle.press_sink.proofs.FuseLemmas.{fuse-fault}
use Rattle.press_sink.proofs.fuse_replies.FuseRepliesReplySink.reply.Goals as goal

pub returns-in-Err-ReplyFault-clause-replies : goal.returns-in-Err-ReplyFault-clause-replies
returns-in-Err-ReplyFault-clause-replies g c =
    grind (arith, append_assoc, c.in-Err-ReplyFault.field-0-is, sym (take-append-drop c.min.result c.args.bytes.now), c.in-Err-ReplyFault.ensures)

pub returns-in-Ok-clause-replies : goal.returns-in-Ok-clause-replies
returns-in-Ok-clause-replies g c =
    fuse-fault (g.S.ReplySink.told c.args.self.now.sink) (g.S.ReplySink.told c.reply.new.self) (g.S.ReplySink.told c.blow-in-Ok.new.self.sink) c.args.self.now.faults c.blow-in-Ok.new.self.faults
    (take c.min.result c.args.bytes.now) (drop c.min.result c.args.bytes.now) c.args.bytes.now c.blow-in-Ok.result c.blow-in-Ok.ensures.fault (ap (λ s. g.S.ReplySink.told s) c.blow-in-Ok.ensures.sink)
    (sym (take-append-drop c.min.result c.args.bytes.now)) c.in-Ok.ensures c.blow-in-Ok.ensures.counts (omega arith)
