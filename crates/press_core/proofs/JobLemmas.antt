-- A job at its place, and its next step.
use Rattle.std.proofs.Common.{◌≡◌, ◌∙◌, ◌+◌, ◌<◌, ◌≤◌, ◌++◌, ◌↔◌, ℕ, List, [], ◌∷◌, length, take, drop, nat_eq, Bool}
use Rattle.std.proofs.Common.{true, false, Some, IsTrue, Result, Ok, is_err, refl, sym, ap, subst, arith, rules, length-append}
use Rattle.std.proofs.lemmas.Bool.{true≢false}
use Rattle.std.proofs.Math.Seq.{drop-length, take-add}
use Rattle.std.proofs.lemmas.List.{append-nil, drop-drop, length-drop}
use Rattle.press_bits.specs.Page.{Page}
use Rattle.press_cmd.specs.ParserState.{Exit}
use Rattle.press_cmd.specs.Split.{Closed, closing}
use Rattle.press_cmd.specs.Token.{Token, Uel}
use Rattle.press_cmd.specs.declared.variant.Kind.{Kind}
use Rattle.press_cmd.proofs.Splits.{closed_once, some_split}
use Rattle.press_engine.specs.declared.step_output.StepOutput.{StepOutput}
use Rattle.press_engine.specs.declared.machine.Machine.{Machine}
use Rattle.press_table.specs.Outputs.{all_outputs}
use Rattle.press_engine.specs.Machine.{StepResult, power_on}
use Rattle.press_engine.specs.Trace.{joined, last_machine, trace}
use Rattle.press_sink.specs.Sending.{sheets_of}
use Rattle.press_stream.specs.declared.step.JobStep.{JobStep}
use Rattle.press_stream.specs.declared.step.JobStep.TheVariants as answers
use Rattle.press_stream.specs.declared.fault.JobError.{JobError}
use Rattle.press_stream.specs.Answers.{Pushes, TakesStep}
use Rattle.press_stream.specs.Left.{LeftWith, LeftGoesOn}
use Rattle.press_stream.specs.Meaning.{with_exit}
use Rattle.press_stream.specs.State.{JobState, IsOver, opened, with_piece, input_ended}
use Rattle.press_stream.specs.Steps.{Does, DoesStep}
use Rattle.press_stream.proofs.Items.{last-append}
use Rattle.press_writer.specs.Job.{job_bytes}
use Rattle.press_writer.specs.Left.{JobLeft, HasImages, bytes_left, most_job_commands}
use Rattle.press_printing.specs.Printing.{PrintsTheTicket}
use Rattle.press_core.specs.declared.work.RunningJob.{RunningJob}
use Rattle.press_core.specs.Jobs.{IsAt, JobGoesOn, still_to_come}
use Rattle.press_core.specs.Turns.{IsJobOf, sheets_from}
use Rattle.press_core.specs.Work.{Work}

-- ---- the items of a job are one list

pub IsJobOf-one : (work : Work) (items others : List StepResult) → IsJobOf work items → IsJobOf work others → items ≡ others
IsJobOf-one work items others (c, closed, is) (d, other, are) = grind (arith, closed_once Exit (job_bytes work.ticket work.images) c d)

pub IsJobOf-some : (work : Work) → (items : List StepResult) × IsJobOf work items
IsJobOf-some work =
    let found = some_split Exit (job_bytes work.ticket work.images) in
    let closed = found.commands ++ closing found.mode found.rest in
    (trace (with_exit closed) power_on, (closed, (found.commands, found.mode, found.rest, found.split, refl), refl))

-- ---- the beginning

-- each command of a written job is one item, and there are few
pub items-few : (work : Work) (items : List StepResult) → IsJobOf work items → PrintsTheTicket work.ticket work.images (job_bytes work.ticket work.images)
    → ((commands : List Token) → Closed (job_bytes work.ticket work.images) commands → length commands ≤ most_job_commands) → length items ≤ most_job_commands + 1
items-few work items (closed, is_closed, is) prints few =
    let same = prints.only closed is_closed in
    omega (
      arith,
      few prints.commands prints.closed,
      ap length is,
      ap (λ (commands : List Token). length (trace (with_exit commands) power_on)) same,
      prints.steps,
      length-append prints.commands (Uel ∷ []),
    )

pub starts_at : LeftGoesOn → (work : Work) (items : List StepResult) (job : JobState) (writer : JobLeft) → IsJobOf work items → job ≡ opened
    → bytes_left writer work.images ≡ job_bytes work.ticket work.images → HasImages (length work.images) writer → PrintsTheTicket work.ticket work.images (job_bytes work.ticket work.images)
    → ((commands : List Token) → Closed (job_bytes work.ticket work.images) commands → length commands ≤ most_job_commands)
    → IsAt items work.images (record { job = job; writer = writer; steps = 0 })
starts_at law work items job writer job_is opens bytes has prints few = record {
  within = omega arith;
  machine = ap (λ (j : JobState). j.machine) opens;
  left = left_at job_is;
  has_images = has;
  fits = let most = items-few work items job_is prints few in omega (arith, most);
} where
  left_at : IsJobOf work items → LeftWith job (bytes_left writer work.images) items
  left_at (closed, is_closed, is) =
      subst (λ (j : JobState). LeftWith j (bytes_left writer work.images) items) (sym opens)
      (subst (λ (all : List StepResult). LeftWith opened (bytes_left writer work.images) all) (sym is)
      (subst (λ (bytes : List ℕ). LeftWith opened bytes (trace (with_exit closed) power_on)) (sym bytes) (law.opens (job_bytes work.ticket work.images) closed is_closed)))

-- ---- what comes in

-- a piece was pushed
pub pushed_at : LeftGoesOn → (items : List StepResult) (images : List Page) (old : RunningJob) (job : JobState) (writer : JobLeft) (piece : List ℕ) → old.job.held.ended ≡ false
    → bytes_left old.writer images ≡ piece ++ bytes_left writer images → job ≡ with_piece piece old.job → HasImages (length images) writer → IsAt items images old
    → IsAt items images (record { job = job; writer = writer; steps = old.steps })
pushed_at law items images old job writer piece going next is has at =
    let before = subst (λ (bytes : List ℕ). LeftWith old.job bytes (drop old.steps items)) next at.left in
    record {
      within = at.within;
      machine = ap (λ (j : JobState). j.machine) is ∙ at.machine;
      left = subst (λ (j : JobState). LeftWith j (bytes_left writer images) (drop old.steps items)) (sym is)
          (law.pushes old.job piece (bytes_left writer images) (drop old.steps items) going before);
      has_images = has;
      fits = at.fits;
    }

pub pushed-fewer : (images : List Page) (old : RunningJob) (job : JobState) (writer : JobLeft) (piece : List ℕ) → bytes_left old.writer images ≡ piece ++ bytes_left writer images
    → job ≡ with_piece piece old.job → 1 ≤ length piece → still_to_come (record { job = job; writer = writer; steps = old.steps }) images < still_to_come old images
pushed-fewer images old job writer piece next is some = grind (arith, length-append)

-- a piece that was not refused
pub pushes_ok : (old new : JobState) (piece : List ℕ) (result : Result (Unit {0}) JobError) → is_err result ≡ false → Pushes old piece result new → new ≡ with_piece piece old
pushes_ok old new piece result ok pushes = grind arith

-- the end was given, where nothing is to come
pub ended_at : LeftGoesOn → (items : List StepResult) (images : List Page) (old : RunningJob) (job : JobState) (writer : JobLeft) → bytes_left old.writer images ≡ []
    → job ≡ input_ended old.job → writer ≡ old.writer → IsAt items images old → IsAt items images (record { job = job; writer = writer; steps = old.steps })
ended_at law items images old job writer none is kept at =
    let nothing : bytes_left writer images ≡ [] = ap (λ (left : JobLeft). bytes_left left images) kept ∙ none in
    record {
      within = at.within;
      machine = ap (λ (j : JobState). j.machine) is ∙ at.machine;
      left = subst (λ (j : JobState). LeftWith j (bytes_left writer images) (drop old.steps items)) (sym is)
          (subst (λ (bytes : List ℕ). LeftWith (input_ended old.job) bytes (drop old.steps items)) (sym nothing)
          (law.ends old.job (drop old.steps items) (subst (λ (bytes : List ℕ). LeftWith old.job bytes (drop old.steps items)) none at.left)));
      has_images = subst (HasImages (length images)) (sym kept) at.has_images;
      fits = at.fits;
    }

pub ended-fewer : (images : List Page) (old : RunningJob) (job : JobState) (writer : JobLeft) → bytes_left old.writer images ≡ [] → job ≡ input_ended old.job → writer ≡ old.writer
    → old.job.held.ended ≡ false → still_to_come (record { job = job; writer = writer; steps = old.steps }) images < still_to_come old images
ended-fewer images old job writer none is kept going = grind arith

-- ---- a step

-- the place behind the next item
pub drop_more : {X : Type 0} (k : ℕ) (xs rest : List X) (x : X) → drop k xs ≡ x ∷ rest → drop (k + 1) xs ≡ rest
drop_more k xs rest x is = sym (drop-drop 1 k xs) ∙ ap (drop 1) is

take_next : {X : Type 0} (k : ℕ) (xs rest : List X) (x : X) → drop k xs ≡ x ∷ rest → take (k + 1) xs ≡ take k xs ++ x ∷ []
take_next k xs rest x is = take-add k 1 xs ∙ ap (λ l. take k xs ++ take 1 l) is

-- What a step of a job at its place leaves: it is at the next place, and the outputs are those of the item there.
pub steps_on : LeftGoesOn → (items : List StepResult) (images : List Page) (old : RunningJob) (job : JobState) (item : StepResult) (kind : Kind) → IsAt items images old → Does old.job item kind job
    → IsAt items images (record { job = job; writer = old.writer; steps = old.steps + 1 }) × (item.outputs ≡ joined (take 1 (drop old.steps items)))
steps_on law items images old job item kind at did =
    let progress = old.steps in
    let on = law.does old.job job item kind (bytes_left old.writer images) (drop progress items) at.left did in (
      record {
        within = omega (arith, ap length on.are, length-drop progress items);
        machine =
            did.ends
            ∙ ap (λ (machine : Machine). Some machine) (sym
            (ap (last_machine power_on) (take_next progress items on.others item on.are)
            ∙ last-append (take progress items) (item ∷ []) power_on));
        left = subst (λ (these : List StepResult). LeftWith job (bytes_left old.writer images) these) (sym (drop_more progress items on.others item on.are)) on.still;
        has_images = at.has_images;
        fits = at.fits;
      },
      sym (ap (λ l. joined (take 1 l)) on.are ∙ append-nil item.outputs),
    )

-- ---- the end

-- no item is left exactly at the end
pub at_end : (items : List StepResult) (images : List Page) (running : RunningJob) → IsAt items images running → drop running.steps items ≡ [] → running.steps ≡ length items
at_end items images running at none = omega (arith, length-drop running.steps items, at.within, ap length none)

pub over_is : (items : List StepResult) (images : List Page) (running : RunningJob) (over : Bool) → IsAt items images running
    → ((bytes : List ℕ) (left : List StepResult) → LeftWith running.job bytes left → IsTrue over ↔ (left ≡ [])) → over ≡ nat_eq running.steps (length items)
over_is items images running true at tells =
    grind (arith, at_end items images running at ((tells (bytes_left running.writer images) (drop running.steps items) at.left).0 refl))
over_is items images running false at tells = by (nat_eq running.steps (length items)) refl where
  by : (same : Bool) → nat_eq running.steps (length items) ≡ same → false ≡ nat_eq running.steps (length items)
  by false is = sym is
  by true is =
      let end : running.steps ≡ length items = grind (arith, rules, is) in
      absurd (true≢false (sym ((tells (bytes_left running.writer images) (drop running.steps items) at.left).1 (ap (λ k. drop k items) end ∙ drop-length items))))

-- a job before its end is not over
pub not_over : LeftGoesOn → (items : List StepResult) (images : List Page) (running : RunningJob) → IsAt items images running → running.steps < length items → IsOver running.job → ⊥
not_over law items images running at within over =
    omega (arith, within, at_end items images running at (law.over running.job (bytes_left running.writer images) (drop running.steps items) over at.left))

-- a step, and its sheets
goes_on : LeftGoesOn → (items : List StepResult) (images : List Page) (step : StepOutput) (old now : RunningJob) (job : JobState)
    → IsAt items images now → now.steps ≡ old.steps → DoesStep now.job step job
    → JobGoesOn items images old (record { job = job; writer = now.writer; steps = now.steps + 1 }) (sheets_of (all_outputs step.sent.items))
goes_on law items images step old now job at here (machine, did) =
    let item : StepResult = record { machine = machine; outputs = all_outputs step.sent.items } in
    let on = steps_on law items images now job item step.kind at did in
    record {
      at = on.0;
      next = ap (λ n. n + 1) here;
      sheets_are = ap sheets_of on.1 ∙ ap (λ n. sheets_from n 1 items) here;
    }

-- by what the step was
pub goes_on_after : LeftGoesOn
    → (items : List StepResult) (images : List Page) (step : StepOutput) (answer : JobStep) (old now : RunningJob) (job : JobState)
    → IsAt items images now → now.steps ≡ old.steps
    → answer ≡ answers.Ran step → TakesStep now.job (Ok answer) job
    → JobGoesOn items images old (record { job = job; writer = now.writer; steps = now.steps + 1 })
    (sheets_of (all_outputs step.sent.items))
goes_on_after law items images step answer old now job at here is takes =
    goes_on law items images step old now job at here (subst (λ s. TakesStep now.job (Ok s) job) is takes)

pub not_ended : LeftGoesOn → (items : List StepResult) (images : List Page) (answer : JobStep) (running : RunningJob) (job : JobState) → IsAt items images running
    → running.steps < length items → answer ≡ answers.Ended → TakesStep running.job (Ok answer) job → ⊥
not_ended law items images answer running job at within is takes = grind (arith, not_over)
