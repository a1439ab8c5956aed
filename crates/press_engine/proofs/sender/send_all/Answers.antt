use Rattle.std.proofs.Common.{◌≡◌, ◌∙◌, ◌∷◌, ◌+◌, List, Ok, suc, drop, sym, ap, subst, drop-cons, add-one, arith}
use Rattle.press_units.proofs.ExitLemmas.{exit-is, exit-was}
use Rattle.press_sink.specs.Sending.{Output, WentOut}
use Rattle.press_sink.proofs.SendingLemmas.{WentOut-then}
use Rattle.press_sink.specs.SinkLog.{logs}
use Rattle.press_table.specs.declared.effect.Sent.{Sent}
use Rattle.press_engine.specs.Engine.{ending_of}
use Rattle.press_table.specs.Outputs.{outputs_of, all_outputs}
use Rattle.press_engine.proofs.SendsLemmas.{WentOut-exit, all_outputs-some, WentOut-all}
use Rattle.press_engine.proofs.sender.send_all.Goals as goal

pub loop-part-preserved : goal.loop-part-preserved
loop-part-preserved g c =
    let rest = drop (c.loop-part.part-index + 1) c.args.sent.now in
    let left : drop c.loop-part.part-index c.args.sent.now ≡ c.part-item.result ∷ rest =
    drop-cons c.args.sent.now c.loop-part.part-index c.part-item.result c.loop-part-test.true
    ∙ rw (add-one c.loop-part.part-index) (ap (λ (x : Sent). x ∷ drop (suc c.loop-part.part-index) c.args.sent.now) (sym c.part-item.is)) in
    record {
      has_fault_room = grind (arith, c.in_ok-send.ensures.sends, c.loop-part.invariant.has_fault_room);
      rest = λ result after sends.
          let P : List Output → Type 0 = λ outputs. WentOut c.args.tag outputs (ending_of result) (logs (g.S.SheetSink.told c.loop-part.sheets) (g.R.ReplySink.told c.loop-part.replies)) after in
          c.loop-part.invariant.rest result after
          (subst P (sym (ap all_outputs left))
          (WentOut-then c.args.tag (outputs_of c.part-item.result) (all_outputs rest) (ending_of result) _ _ after
          c.in_ok-send.ensures.sends sends));
    }

pub returns-in_err-send-clause-sends : goal.returns-in_err-send-clause-sends
returns-in_err-send-clause-sends g c =
    let rest = drop (c.loop-part.part-index + 1) c.args.sent.now in
    let left : drop c.loop-part.part-index c.args.sent.now ≡ c.part-item.result ∷ rest =
    drop-cons c.args.sent.now c.loop-part.part-index c.part-item.result c.loop-part-test.true
    ∙ rw (add-one c.loop-part.part-index) (ap (λ (x : Sent). x ∷ drop (suc c.loop-part.part-index) c.args.sent.now) (sym c.part-item.is)) in
    let P : List Output → Type 0 =
    λ outputs.
    WentOut c.args.tag outputs (ending_of c.from_residual.result)
    (logs (g.S.SheetSink.told c.loop-part.sheets) (g.R.ReplySink.told c.loop-part.replies))
    (logs (g.S.SheetSink.told c.send.new.sheets) (g.R.ReplySink.told c.send.new.replies)) in
    c.loop-part.invariant.rest c.from_residual.result _ (subst P (sym (ap all_outputs left))
    (WentOut-exit c.args.tag (outputs_of c.part-item.result) (all_outputs rest) c.send.result c.from_residual.result _ _ _ c.send.ensures.sends c.in_err-send.was (exit-is c.from_residual.ensures.1)))

pub returns-in_err-send-clause-memory : goal.returns-in_err-send-clause-memory
returns-in_err-send-clause-memory g c stops = grind (arith, drop-cons, add-one, all_outputs-some, exit-was)

pub returns-clause-sends : goal.returns-clause-sends
returns-clause-sends g c = grind (arith, c.loop-part.invariant.rest (Ok tt) _ (WentOut-all c.args.tag c.loop-part.part-index c.args.sent.now _ c.loop-part-test.false))
