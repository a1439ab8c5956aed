use Rattle.std.proofs.Common.{rules}
use Rattle.std.proofs.lemmas.Result.{IfOk-weaker}
use Rattle.press_debug.proofs.stepper.Stepper.open.Goals as goal

pub returns : goal.returns
returns c = IfOk-weaker c.of.result _ _ (λ stepper holds. holds c.args.bytes.now (search rules)) c.of.ensures
