use Rattle.std.proofs.Common.{refl}
use Rattle.std.proofs.lemmas.Result.{IfOk-weaker}
use Rattle.press_core.specs.Events.{TurnOn, Operator}
use Rattle.press_sessions.proofs.session.Session.happen.Goals as goal

pub returns-in-Turn-clause-ok : goal.returns-in-Turn-clause-ok
returns-in-Turn-clause-ok g c = rw c.in-Turn.is (IfOk-weaker c.carry_out.result _ _ (λ answer taken. (TurnOn c.in-Turn.engine c.in-Turn.most, (refl, refl), taken)) c.carry_out.ensures.ok)

pub returns-in-Turn-clause-err : goal.returns-in-Turn-clause-err
returns-in-Turn-clause-err g c = rw c.in-Turn.is c.carry_out.ensures.err

pub returns-in-Operator-clause-ok : goal.returns-in-Operator-clause-ok
returns-in-Operator-clause-ok g c =
    rw c.in-Operator.is (IfOk-weaker c.carry_out-in-Operator.result _ _ (λ answer taken. (Operator c.in-Operator.command, refl, taken)) c.carry_out-in-Operator.ensures.ok)

pub returns-in-Operator-clause-err : goal.returns-in-Operator-clause-err
returns-in-Operator-clause-err g c = rw c.in-Operator.is c.carry_out-in-Operator.ensures.err
