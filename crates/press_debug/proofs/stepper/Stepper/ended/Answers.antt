use Rattle.std.proofs.Common.{[], length, ◌≤◌, IsFalse, subst}
use Rattle.press_debug.specs.Steps.{DebuggerState, Remains}
use Rattle.press_debug.proofs.Taking.{remains, Advances-if}
use Rattle.press_debug.proofs.stepper.Stepper.ended.Goals as goal

pub returns-clause-left : goal.returns-clause-left
returns-clause-left c = subst (λ (standing : DebuggerState). IsFalse c.ended.result → Remains standing.job) c.self.view_is (remains c.ended.result c.self.inside.job (c.ended.ensures.left []))

pub returns-clause-none : goal.returns-clause-none
returns-clause-none c = Advances-if c.args.self.now (subst (λ (standing : DebuggerState). length standing.recent ≤ 64) c.self.view_is c.self.invariant.few)
