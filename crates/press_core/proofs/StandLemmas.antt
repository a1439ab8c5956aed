-- A work whose job stands at its place.
use Rattle.std.proofs.Common.{◌≡◌, ◌∙◌, ◌+◌, ◌<◌, ◌≤◌, ◌↔◌, ℕ, List, [], length, nat_eq, IsTrue, Bool, Option, Some, IfSome, Vec, Global, option_map, unwrap_or, sym, ap, subst, arith}
use Rattle.press_bits.specs.Page.{Page}
use Rattle.press_engine.specs.Machine.{StepResult}
use Rattle.press_bits.specs.PrintedSheet.{PrintedSheet}
use Rattle.press_stream.specs.Left.{LeftWith}
use Rattle.press_core.specs.declared.work.RunningJob.{RunningJob}
use Rattle.press_core.specs.Inside.{IsJobAt}
use Rattle.press_core.specs.Jobs.{IsAt, JobGoesOn}
use Rattle.press_core.specs.Turns.{IsJobOf, progress_in_job, sheets_from}
use Rattle.press_core.specs.Work.{Work, at_progress}
use Rattle.press_core.proofs.JobLemmas.{IsJobOf-one, IsJobOf-some, over_is}

-- the images that are kept are those with which it entered
pub same_images : (o : Option (Vec Page Global)) (images : Vec Page Global) (entered : List Page) → o ≡ Some images → IfSome o (λ kept. kept.items ≡ entered) → images.items ≡ entered
same_images o images entered is same = subst (λ x. IfSome x (λ (kept : Vec Page Global). kept.items ≡ entered)) is same

-- a job that begins stands at the first place
pub begins : (work : Work) (running : RunningJob) → ((items : List StepResult) → IsJobOf work items → IsAt items work.images running) → IsJobAt work running
begins work running at = let some = IsJobOf-some work in (some.0, some.1, at some.0 some.1)

pub standing : (work : Work) (o : Option RunningJob) (running : RunningJob) → o ≡ Some running → IfSome o (λ r. IsJobAt work r) → IsJobAt work running
standing work o running is stands = subst (λ r. IfSome r (λ r. IsJobAt work r)) is stands

-- its place is the number of its steps
pub placed : (work : Work) (o : Option RunningJob) (running : RunningJob) → o ≡ Some running → work.progress ≡ option_map (λ r. r.steps) o → progress_in_job work ≡ running.steps
placed work o running is progress = ap (λ p. unwrap_or p 0) (progress ∙ ap (λ r. option_map (λ r. r.steps) r) is)

-- no step is left exactly at the end of the items
pub over_progress : (work : Work) (o : Option RunningJob) (running : RunningJob) (over : Bool) → o ≡ Some running → work.progress ≡ option_map (λ r. r.steps) o → IfSome o (λ r. IsJobAt work r)
    → ((bytes : List ℕ) (left : List StepResult) → LeftWith running.job bytes left → IsTrue over ↔ (left ≡ []))
    → (items : List StepResult) → IsJobOf work items → over ≡ nat_eq (progress_in_job work) (length items)
over_progress work o running over is progress stands tells items job =
    let at = standing work o running is stands in
    over_is at.0 work.images running over at.2 tells
    ∙ ap (λ n. nat_eq n (length at.0)) (sym (placed work o running is progress)) ∙ ap (λ cs. nat_eq (progress_in_job work) (length cs)) (IsJobOf-one work at.0 items at.1 job)

-- no job is behind the end of its items
pub within_progress : (work : Work) (o : Option RunningJob) (running : RunningJob) → o ≡ Some running → work.progress ≡ option_map (λ r. r.steps) o → IfSome o (λ r. IsJobAt work r)
    → (items : List StepResult) → IsJobOf work items → progress_in_job work ≤ length items
within_progress work o running is progress stands items job =
    let at = standing work o running is stands in
    subst (λ cs. progress_in_job work ≤ length cs) (IsJobOf-one work at.0 items at.1 job)
    (subst (λ n. n ≤ length at.0) (sym (placed work o running is progress)) at.2.within)

-- a job that may go on is before the end of its items
pub may_go_on : (work : Work) (o : Option RunningJob) (running : RunningJob) → o ≡ Some running → work.progress ≡ option_map (λ r. r.steps) o → IfSome o (λ r. IsJobAt work r)
    → ((items : List StepResult) → IsJobOf work items → progress_in_job work < length items)
    → (items : List StepResult) × IsAt items work.images running × (running.steps < length items)
may_go_on work o running is progress stands going = grind arith

-- the work of a job that went on
pub advances : (work : Work) (o : Option RunningJob) (running new : RunningJob) (sheets : List PrintedSheet) → o ≡ Some running → work.progress ≡ option_map (λ r. r.steps) o
    → IfSome o (λ r. IsJobAt work r) → ((items : List StepResult) → IsAt items work.images running → JobGoesOn items work.images running new sheets)
    → (items : List StepResult) → IsJobOf work items
    → (at_progress new.steps work ≡ at_progress (progress_in_job work + 1) work) × (sheets ≡ sheets_from (progress_in_job work) 1 items)
advances work o running new sheets is progress stands goes items job =
    let at = standing work o running is stands in
    let here = placed work o running is progress in
    let on = goes items (subst (λ cs. IsAt cs work.images running) (IsJobOf-one work at.0 items at.1 job) at.2) in
    (ap (λ n. at_progress n work) (on.next ∙ ap (λ n. n + 1) (sym here)), on.sheets_are ∙ ap (λ n. sheets_from n 1 items) (sym here))
