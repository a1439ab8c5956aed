use Rattle.std.proofs.Common.{IfSome, IsTrue, subst, sym}
use Rattle.press_queue.specs.Rows.{entry_runs}
use Rattle.press_core.specs.World.{World}
use Rattle.press_core.proofs.PressLemmas.{runs-on}
use Rattle.press_core.proofs.press.Press.on_engine.Goals as goal

pub returns-clause-runs : goal.returns-clause-runs
returns-clause-runs c =
    subst (λ (w : World). IfSome c.running.result (λ n. IsTrue (entry_runs n w.queue))) c.self.view_is
    (subst (λ o. IfSome o (λ n. IsTrue (entry_runs n c.self.inside.queue))) (sym c.running.ensures)
    (runs-on c.self.inside.queue c.self.inside.engines c.args.engine c.self.invariant.on_engines))
