use Rattle.std.proofs.Common.{IsTrue, subst, sym}
use Rattle.press_queue.specs.declared.status.End.TheVariants.{Aborted}
use Rattle.press_queue.specs.Rows.{entry_runs}
use Rattle.press_core.specs.World.{World}
use Rattle.press_core.proofs.PressLemmas.{IsPress-finished}
use Rattle.press_core.proofs.press.Press.abort_on.Goals as goal

pub invariant_of-self : goal.invariant_of-self
invariant_of-self c =
    rw (c.finish.ensures.works, c.finish.ensures.queue, c.finish.ensures.engines)
    (IsPress-finished c.in-Some.number Aborted c.self.inside.queue c.self.inside.works.entries c.self.inside.engines
    (subst (λ (w : World). IsTrue (entry_runs c.in-Some.number w.queue)) (sym c.self.view_is) c.in-Some.ensures.runs) c.self.invariant)
