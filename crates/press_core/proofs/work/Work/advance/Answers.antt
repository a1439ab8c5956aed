use Rattle.std.proofs.Common.{◌≡◌, ◌<◌, ◌∙◌, List, Some, is_some, length, subst, sym, ap, refl}
use Rattle.press_engine.specs.Machine.{StepResult}
use Rattle.press_core.specs.Inside.{work_of}
use Rattle.press_table.specs.Outputs.{all_outputs}
use Rattle.press_sink.specs.Sending.{sheets_of}
use Rattle.press_core.specs.Jobs.{Advances, IsAt, JobGoesOn}
use Rattle.press_core.specs.Turns.{IsJobOf, progress_in_job}
use Rattle.press_core.specs.Work.{Work, at_progress}
use Rattle.press_core.proofs.StandLemmas.{may_go_on, advances, same_images}
use Rattle.press_core.proofs.work.Work.advance.Goals as goal

pub step-requires : goal.step-requires
step-requires c =
    let images : c.deref.result.now ≡ (work_of c.self.inside).images =
    c.deref.ensures.value ∙ same_images c.self.inside.images c.in-Some-take.images (work_of c.self.inside).images (sym c.take-2.ensures.value ∙ c.in-Some-take.is) c.self.invariant.same in
    record {
      at =
          subst (λ images. (items : List StepResult) × IsAt items images c.in-Some.running × (c.in-Some.running.steps < length items)) (sym images)
          (may_go_on (work_of c.self.inside) c.self.inside.running c.in-Some.running (sym c.take.ensures.value ∙ c.in-Some.is) refl c.self.invariant.stands
          (subst (λ (w : Work). (items : List StepResult) → IsJobOf w items → progress_in_job w < length items) (sym c.self.view_is) c.requires.going));
    }

pub returns-clause-ok : goal.returns-clause-ok
returns-clause-ok c =
    let sheets = sheets_of (all_outputs c.in_ok-sent.sent.items) in
    let kept : c.self.inside.images ≡ Some c.in-Some-take.images = sym c.take-2.ensures.value ∙ c.in-Some-take.is in
    let images : c.deref.result.now ≡ (work_of c.self.inside).images =
    c.deref.ensures.value ∙ same_images c.self.inside.images c.in-Some-take.images (work_of c.self.inside).images kept c.self.invariant.same in
    let on : Advances c.args.self.now (at_progress c.step.new.self.steps (work_of c.self.inside)) sheets =
    subst (λ (w : Work). Advances w (at_progress c.step.new.self.steps (work_of c.self.inside)) sheets) c.self.view_is
    (λ items job. advances (work_of c.self.inside) c.self.inside.running c.in-Some.running c.step.new.self sheets
    (sym c.take.ensures.value ∙ c.in-Some.is) refl c.self.invariant.stands
    (subst (λ images. (items : List StepResult) → IsAt items images c.in-Some.running → JobGoesOn items images c.in-Some.running c.step.new.self sheets)
    images c.in_ok-sent.ensures) items job) in
    subst (λ b. Advances c.args.self.now (record (at_progress c.step.new.self.steps (work_of c.self.inside)) { kept = b }) sheets) (ap is_some kept) on
