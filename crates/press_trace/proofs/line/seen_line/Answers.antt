use Rattle.std.proofs.Common.{Some}
use Rattle.std.proofs.lemmas.Result.{IfOk-weaker}
use Rattle.press_trace.proofs.line.seen_line.Goals as goal

pub returns-in-Some : goal.returns-in-Some
returns-in-Some c =
    IfOk-weaker c.step_line.result _ _ (λ line is. (Some c.view-view.result, rw c.in-Some.is c.view-view.ensures, is)) c.step_line.ensures
