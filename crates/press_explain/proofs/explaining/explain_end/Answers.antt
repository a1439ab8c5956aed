use Rattle.press_units.proofs.ExitLemmas.{exit-is}
use Rattle.press_explain.proofs.ReadLemmas.{end_cut, end_written, want_of_memory}
use Rattle.press_explain.proofs.explaining.explain_end.Goals as goal

pub returns-in_err-explain_held-clause-all : goal.returns-in_err-explain_held-clause-all
returns-in_err-explain_held-clause-all g c =
    rw (exit-is c.from_residual.ensures.1)
    (λ bytes old told ended. want_of_memory bytes old (g.W.WriteDevice.contents c.args.out.now) c.args.explainer.now told)

pub returns-in_err-finish-clause-all : goal.returns-in_err-finish-clause-all
returns-in_err-finish-clause-all g c =
    rw (exit-is c.from_residual-in_err-finish.ensures.1)
    (λ bytes old told ended. want_of_memory bytes old (g.W.WriteDevice.contents c.args.out.now) c.args.explainer.now told)

pub returns-in_err-write_whole-clause-all : goal.returns-in_err-write_whole-clause-all
returns-in_err-write_whole-clause-all g c =
    rw (exit-is c.from_residual-in_err-write_whole.ensures.1)
    (λ bytes old told ended. end_cut c.args.explainer.now (g.W.WriteDevice.contents c.args.out.now) c.explain_held.new.self c.explain_held.new.text.items
    (rw c.new-text.ensures.items at c.in_ok-explain_held.ensures.goes) c.finish.new.text.items c.in_ok-finish.ensures c.in_ok-explain_held.ensures.done bytes old told ended
    (g.W.WriteDevice.contents c.write_whole.new.output) (rw c.deref.ensures.value at c.in_err-write_whole.ensures.written) c.in_err-write_whole.field-0.0)

pub returns-clause-all : goal.returns-clause-all
returns-clause-all g c = λ bytes old told ended.
    end_written c.args.explainer.now (g.W.WriteDevice.contents c.args.out.now) c.explain_held.new.self c.explain_held.new.text.items
    (rw c.new-text.ensures.items at c.in_ok-explain_held.ensures.goes) c.finish.new.text.items c.in_ok-finish.ensures c.in_ok-explain_held.ensures.done bytes old told ended
    (g.W.WriteDevice.contents c.write_whole.new.output) (rw c.deref.ensures.value at c.in_ok-write_whole.ensures.written)
