use Rattle.press_units.proofs.ExitLemmas.{exit-is}
use Rattle.press_sessions.proofs.SessionLemmas.{HasNoTemplate-of}
use Rattle.press_sessions.proofs.sessions.template_of.Goals as goal

pub returns-in_err-template-clause-err : goal.returns-in_err-template-clause-err
returns-in_err-template-clause-err c =
    rw (exit-is c.from_residual.ensures.1) (rw c.in-Some.is (HasNoTemplate-of c.in-Some.text.now c.in_err-template.field-0.0 c.in_err-template.ensures.bad))

pub returns-clause-parts : goal.returns-clause-parts
returns-clause-parts c = rw c.in-Some.is c.in_ok-template.ensures.ok
