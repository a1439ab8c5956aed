use Rattle.std.proofs.Common.{◌∙◌, List, subst, ap}
use Rattle.press_engine.specs.Machine.{StepResult}
use Rattle.press_core.specs.Inside.{work_of}
use Rattle.press_core.specs.Jobs.{IsAt}
use Rattle.press_core.specs.Turns.{IsJobOf}
use Rattle.press_core.specs.Work.{Work, new_work}
use Rattle.press_core.proofs.StandLemmas.{begins, same_images}
use Rattle.press_core.proofs.work.Work.begin.Goals as goal

pub invariant_of-self : goal.invariant_of-self
invariant_of-self c =
    let running = c.in_ok-open.field-0 in
    record {
      printable = c.self.invariant.printable;
      same = c.self.invariant.same;
      needed = ap (λ (w : Work). w.kept) c.self.view_is ∙ c.requires;
      stands =
          begins (work_of c.self.inside) running
          (subst (λ images. (items : List StepResult) → IsJobOf (new_work c.self.inside.ticket images) items → IsAt items images running)
          (c.deref.ensures.value ∙ same_images c.self.inside.images c.in-Some.images (work_of c.self.inside).images c.in-Some.is c.self.invariant.same) c.in_ok-open.ensures.at);
    }
