use Rattle.press_units.proofs.ExitLemmas.{exit-is}
use Rattle.press_explain.proofs.ReadLemmas.{held_cut, held_written, want_of_memory}
use Rattle.press_explain.proofs.explaining.explain_held.Goals as goal

pub returns-in_err-explain_held-clause-held : goal.returns-in_err-explain_held-clause-held
returns-in_err-explain_held-clause-held g c =
    rw (exit-is c.from_residual.ensures.1)
    (λ bytes old told. want_of_memory bytes old (g.W.WriteDevice.contents c.args.out.now) c.args.explainer.now told)

pub returns-in_err-write_whole-clause-held : goal.returns-in_err-write_whole-clause-held
returns-in_err-write_whole-clause-held g c =
    rw (exit-is c.from_residual-in_err-write_whole.ensures.1)
    (λ bytes old told. held_cut c.args.explainer.now (g.W.WriteDevice.contents c.args.out.now) c.explain_held.new.self c.explain_held.new.text.items
    (rw c.new-text.ensures.items at c.in_ok-explain_held.ensures.goes) bytes old told (g.W.WriteDevice.contents c.write_whole.new.output)
    (rw c.deref.ensures.value at c.in_err-write_whole.ensures.written) c.in_err-write_whole.field-0.0)

pub returns-clause-held : goal.returns-clause-held
returns-clause-held g c =
    held_written c.args.explainer.now (g.W.WriteDevice.contents c.args.out.now) c.explain_held.new.self c.explain_held.new.text.items
    (rw c.new-text.ensures.items at c.in_ok-explain_held.ensures.goes) (g.W.WriteDevice.contents c.write_whole.new.output)
    (rw c.deref.ensures.value at c.in_ok-write_whole.ensures.written) c.in_ok-explain_held.ensures.done
