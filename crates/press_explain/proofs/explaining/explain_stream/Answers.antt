use Rattle.press_units.proofs.ExitLemmas.{exit-is}
use Rattle.press_explain.proofs.ReadLemmas.{end_stopped, end_told, flushed, not_begun, not_flushed}
use Rattle.press_explain.proofs.explaining.explain_stream.Goals as goal

pub returns-in_err-explainer-clause-stops : goal.returns-in_err-explainer-clause-stops
returns-in_err-explainer-clause-stops g c = rw (exit-is c.from_residual.ensures.1) (not_begun _ _)

pub returns-in_err-explain_end-clause-stops : goal.returns-in_err-explain_end-clause-stops
returns-in_err-explain_end-clause-stops g c =
    rw (exit-is c.from_residual-in_err-explain_end.ensures.1)
    (end_stopped _ _ _ _ c.explain_pieces.new.explainer c.in_ok-explain_pieces.ensures.explains c.end_input.new.self c.end_input.ensures
    c.in_err-explain_end.field-0.0 _ c.in_err-explain_end.ensures.all)

pub returns-in_err-flush_all-clause-stops : goal.returns-in_err-flush_all-clause-stops
returns-in_err-flush_all-clause-stops g c =
    rw (exit-is c.from_residual-in_err-flush_all.ensures.1)
    (not_flushed _ _ _ _ _ c.in_err-flush_all.field-0.0
    (end_told _ _ _ _ c.explain_pieces.new.explainer c.in_ok-explain_pieces.ensures.explains c.end_input.new.self c.end_input.ensures _ c.in_ok-explain_end.ensures.all)
    c.flush_all.ensures.bytes)

pub returns-clause-explains : goal.returns-clause-explains
returns-clause-explains g c =
    flushed _ _ _ _ _
    (end_told _ _ _ _ c.explain_pieces.new.explainer c.in_ok-explain_pieces.ensures.explains c.end_input.new.self c.end_input.ensures _ c.in_ok-explain_end.ensures.all)
    c.flush_all.ensures.bytes
