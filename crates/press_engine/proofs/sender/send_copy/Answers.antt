use Rattle.std.proofs.Common.{ℕ, Option, [], ◌∷◌, sym, subst}
use Rattle.press_units.proofs.ExitLemmas.{exit-is}
use Rattle.press_pjl.specs.Replies.{page_reply}
use Rattle.press_sink.specs.SinkLog.{logs}
use Rattle.press_sink.specs.Sending.{Deliver, Reply, WentOut}
use Rattle.press_sink.proofs.SendingLemmas.{WentOut-then}
use Rattle.press_engine.specs.Engine.{ending_of}
use Rattle.press_table.specs.Outputs.{copy_out, status_out}
use Rattle.press_engine.proofs.SendsLemmas.{WentOut-exit}
use Rattle.press_engine.proofs.sender.send_copy.Goals as goal

pub returns-in_err-deliver : goal.returns-in_err-deliver
returns-in_err-deliver g c =
    WentOut-exit c.args.tag (Deliver c.args.sheet.now ∷ []) (status_out c.args.count) c.deliver.result c.from_residual.result _ _ _
    c.deliver.ensures c.in_err-deliver.was (exit-is c.from_residual.ensures.1)

pub returns-in-Some : goal.returns-in-Some
returns-in-Some g c =
    let P : Option ℕ → Type 0 =
    λ count.
    WentOut c.args.tag (copy_out c.args.sheet.now count) (ending_of c.reply_status.result)
    (logs (g.S.SheetSink.told c.args.sheets.now) (g.R.ReplySink.told c.args.replies.now))
    (logs (g.S.SheetSink.told c.reply_status.new.sheets) (g.R.ReplySink.told c.reply_status.new.replies)) in
    subst P (sym c.in-Some.is)
    (WentOut-then c.args.tag (Deliver c.args.sheet.now ∷ []) (Reply (page_reply c.in-Some.since_job) ∷ [])
    (ending_of c.reply_status.result) _ _ _ c.in_ok-deliver.ensures c.reply_status.ensures)
