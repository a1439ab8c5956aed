-- Steps of a work's job, one after another.
use Rattle.std.proofs.Common.{◌≡◌, ◌∙◌, ◌+◌, ◌-◌, ◌<◌, ◌≤◌, ◌++◌, ℕ, List, [], ◌⊎◌, inl, inr, length, Some, None}
use Rattle.std.proofs.Common.{IsSome, Result, Ok, Err, refl, sym, ap, subst, arith, nat_eq, is_some, Bool, false}
use Rattle.std.proofs.Math.Seq.{take-add}
use Rattle.std.proofs.lemmas.List.{append_assoc, append-nil, drop-drop, map-append}
use Rattle.press_engine.specs.Machine.{StepResult}
use Rattle.press_engine.proofs.TraceLaws.{joined-append}
use Rattle.press_sink.specs.Sending.{under_tag}
use Rattle.press_bits.specs.PrintedSheet.{PrintedSheet}
use Rattle.press_sink.specs.SinkLog.{SheetLog}
use Rattle.press_sink.proofs.SendingLemmas.{sheets_of-append}
use Rattle.press_core.specs.declared.turn.TurnError.{TurnError}
use Rattle.press_core.specs.declared.turn.TurnError.TheVariants as errors
use Rattle.press_core.specs.Handing.{HandsOver, TakesSteps, handing}
use Rattle.press_core.specs.Jobs.{Advances}
use Rattle.press_core.specs.Turns.{IsJobOf, WereHandedOut, progress_in_job, sheets_from, steps_from}
use Rattle.press_core.specs.Work.{Work, at_progress, counting, without_job}
use Rattle.press_core.proofs.HandingLemmas.{counting-append, handed_twice}
use Rattle.press_core.proofs.JobLemmas.{IsJobOf-some}

-- ---- the sheets of steps

-- steps, and then others
pub sheets_from-more : (progress steps more : ℕ) (items : List StepResult)
    → sheets_from progress (steps + more) items ≡ sheets_from progress steps items ++ sheets_from (progress + steps) more items
sheets_from-more progress steps more items = grind (arith, take-add, drop-drop, joined-append, sheets_of-append)

-- ---- a step

-- where a work is that took so many steps
pub placed_at : (number taken : ℕ) (old now : Work) (before after : SheetLog) → TakesSteps taken old (Ok taken) now (handing number before after) → progress_in_job now ≡ progress_in_job old + taken
placed_at number taken old now before after took = ap progress_in_job took.left

same_job : (number taken : ℕ) (old now : Work) (before after : SheetLog) (items : List StepResult) → TakesSteps taken old (Ok taken) now (handing number before after)
    → IsJobOf old items → IsJobOf now items
same_job number taken old now before after items took job = subst (λ (w : Work). IsJobOf w items) (sym took.left) job

-- its job has begun
pub still_begun : (number taken : ℕ) (old now : Work) (before after : SheetLog) → TakesSteps taken old (Ok taken) now (handing number before after) → IsSome now.progress
still_begun number taken old now before after took = ap (λ (w : Work). is_some w.progress) took.left

-- a work that is not over is before the end of its job
pub may_step : (work : Work) (over : Bool) → over ≡ false → IsSome work.progress
    → (IsSome work.progress → (items : List StepResult) → IsJobOf work items → over ≡ nat_eq (progress_in_job work) (length items))
    → (IsSome work.progress → (items : List StepResult) → IsJobOf work items → progress_in_job work ≤ length items)
    → (items : List StepResult) → IsJobOf work items → progress_in_job work < length items
may_step work over going begun ends within items job = grind arith

-- What a work handed out at its next step, as far as no fault came.
record OneStep (number : ℕ) (old now next : Work) (taken : ℕ) (handed others : List PrintedSheet) : Type 0 where
  pub here : (items : List StepResult) → IsJobOf old items → sheets_from (progress_in_job old + taken) 1 items ≡ handed ++ others
  pub within : (items : List StepResult) → IsJobOf old items → progress_in_job old + taken < length items
  pub next_is : next ≡ at_progress (progress_in_job old + taken + 1) now

one_step : (number taken : ℕ) (old now next : Work) (sheets : List PrintedSheet) (result : Result (Unit {0}) TurnError) (before between after : SheetLog) (count : ℕ)
    → TakesSteps taken old (Ok taken) now (handing number before between) → Advances now next sheets
    → (hands : HandsOver sheets result (handing number between after) next.delivered count)
    → ((items : List StepResult) → IsJobOf now items → progress_in_job now < length items)
    → OneStep number old now next taken hands.handed hands.others
one_step number taken old now next sheets result before between after count took advances hands going =
    let here = placed_at number taken old now before between took in
    let some = IsJobOf-some old in
    record {
      here = λ items job.
          let advanced = advances items (same_job number taken old now before between items took job) in
          sym (ap (λ n. sheets_from n 1 items) here) ∙ sym advanced.1 ∙ hands.sheets_are;
      within = λ items job. subst (λ n. n < length items) here (going items (same_job number taken old now before between items took job));
      next_is = (advances some.0 (same_job number taken old now before between some.0 took some.1)).0 ∙ ap (λ n. at_progress (n + 1) now) here;
    }

-- the sheets of the steps so far, and of one more
with_one : (progress taken : ℕ) (items : List StepResult) (sheets handed others : List PrintedSheet) → sheets ≡ sheets_from progress taken items
    → sheets_from (progress + taken) 1 items ≡ handed ++ others → sheets_from progress (taken + 1) items ≡ (sheets ++ handed) ++ others
with_one progress taken items sheets handed others are here = grind (arith, sheets_from-more, append_assoc)

-- what was handed out so far, and what of one step more
handed_on : {A B : Type 0} (number : ℕ) (sheets handed : List PrintedSheet) (done : A) (result : Result B TurnError) (before between after : SheetLog)
    → WereHandedOut {A = A} (under_tag number sheets) (Ok done) before between → WereHandedOut (under_tag number handed) result between after
    → WereHandedOut (under_tag number (sheets ++ handed)) result before after
handed_on number sheets handed done result before between after first second = search (arith, map-append, handed_twice)

-- the count after the sheets so far and those of a step
counts_on : (number taken : ℕ) (old now next : Work) (sheets : List PrintedSheet) (result : Result (Unit {0}) TurnError) (before between after : SheetLog) (count : ℕ)
    → (took : TakesSteps taken old (Ok taken) now (handing number before between)) → (hands : HandsOver sheets result (handing number between after) next.delivered count)
    → next ≡ at_progress (progress_in_job old + taken + 1) now → count ≡ counting (took.sheets ++ hands.handed) old.delivered
counts_on number taken old now next sheets result before between after count took hands is = grind (arith, counting-append)

-- a step more
pub one_more : (number taken : ℕ) (old now next : Work) (sheets : List PrintedSheet) (before between after : SheetLog) (count : ℕ)
    → TakesSteps taken old (Ok taken) now (handing number before between) → Advances now next sheets
    → HandsOver sheets (Ok tt) (handing number between after) next.delivered count
    → ((items : List StepResult) → IsJobOf now items → progress_in_job now < length items)
    → TakesSteps (taken + 1) old (Ok (taken + 1)) (record next { delivered = count }) (handing number before after)
one_more number taken old now next sheets before between after count took advances hands going =
    let step = one_step number taken old now next sheets (Ok tt) before between after count took advances hands going in
    let were = handed_on number took.sheets hands.handed taken (Ok tt) before between after took.were hands.were in
    record {
      sheets = took.sheets ++ hands.handed;
      steps = grind (arith, append-nil, with_one);
      left =
          ap (λ (w : Work). record w { delivered = count }) step.next_is
          ∙ ap (λ (w : Work). record w { delivered = count; progress = Some (progress_in_job old + taken + 1) }) took.left
          ∙ ap (λ n. record old { delivered = n; progress = Some (progress_in_job old + taken + 1) })
          (counts_on number taken old now next sheets (Ok tt) before between after count took hands step.next_is)
          ∙ ap (λ n. record old { delivered = counting (took.sheets ++ hands.handed) old.delivered; progress = Some n }) (omega arith);
      were = record { told = were.told; faults = were.faults };
    }

-- ---- a fault

-- a fault at a step after so many: the sheets so far are a prefix of those of all steps
prefixes : (progress taken most : ℕ) (items : List StepResult) (sheets others : List PrintedSheet) → taken ≤ steps_from progress most items → sheets_from progress taken items ≡ sheets ++ others
    → (left : List PrintedSheet) × (sheets_from progress (steps_from progress most items) items ≡ sheets ++ left)
prefixes progress taken most items sheets others within are =
    let left = steps_from progress most items - taken in
    let all : steps_from progress most items ≡ taken + left = omega (arith, within) in (
      others ++ sheets_from (progress + taken) left items,
      ap (λ n. sheets_from progress n items) all ∙ sheets_from-more progress taken left items
          ∙ ap (λ l. l ++ sheets_from (progress + taken) left items) are ∙ append_assoc sheets others (sheets_from (progress + taken) left items),
    )

pub stopped_in_step : (number taken most : ℕ) (old now next : Work) (sheets : List PrintedSheet) (error : TurnError) (before between after : SheetLog) (count : ℕ)
    → TakesSteps taken old (Ok taken) now (handing number before between) → Advances now next sheets
    → HandsOver sheets (Err error) (handing number between after) next.delivered count
    → ((items : List StepResult) → IsJobOf now items → progress_in_job now < length items) → taken < most
    → TakesSteps most old (Err error) (record next { delivered = count }) (handing number before after)
stopped_in_step number taken most old now next sheets error before between after count took advances hands going below =
    let step = one_step number taken old now next sheets (Err error) before between after count took advances hands going in
    let were = handed_on number took.sheets hands.handed taken (Err error) before between after took.were hands.were in
    record {
      sheets = took.sheets ++ hands.handed;
      steps = λ items job.
          let so_far = took.steps items job in
          let prefix = prefixes (progress_in_job old) (taken + 1) most items (took.sheets ++ hands.handed) hands.others (omega (arith, so_far.0, below, step.within items job))
          (with_one (progress_in_job old) taken items took.sheets hands.handed hands.others so_far.1 (step.here items job)) in
          (prefix.0, prefix.1, hands.fault);
      left =
          ap (λ (w : Work). record w { delivered = count; progress = None; kept = false }) step.next_is
          ∙ ap (λ (w : Work). record w { delivered = count; progress = None; kept = false }) took.left
          ∙ ap (λ n. record old { delivered = n; progress = None; kept = false }) (counts_on number taken old now next sheets (Err error) before between after count took hands step.next_is);
      were = record { told = were.told; faults = were.faults };
    }

-- memory ran out before a step
pub stopped_before_step : (number taken most : ℕ) (old now next : Work) (before after : SheetLog) → TakesSteps taken old (Ok taken) now (handing number before after)
    → next ≡ without_job now → taken < most → TakesSteps most old (Err errors.NoMemory) next (handing number before after)
stopped_before_step number taken most old now next before after took is below = record {
  sheets = took.sheets;
  steps = λ items job.
      let so_far = took.steps items job in
      let prefix = prefixes (progress_in_job old) taken most items took.sheets [] (omega (arith, so_far.0, below)) (sym so_far.1 ∙ sym (append-nil took.sheets)) in
      (prefix.0, prefix.1, refl);
  left = ap (without_job) (is ∙ ap (without_job) took.left);
  were = record { told = took.were.told; faults = took.were.faults };
}

-- ---- the last step

-- so many steps were asked for, or no step is left
pub took_all : (number taken most : ℕ) (old now : Work) (before after : SheetLog) → TakesSteps taken old (Ok taken) now (handing number before after) → taken ≤ most
    → ((items : List StepResult) → IsJobOf now items → (most ≤ taken) ⊎ (progress_in_job now ≡ length items)) → TakesSteps most old (Ok taken) now (handing number before after)
took_all number taken most old now before after took below ends = record {
  sheets = took.sheets;
  steps = λ items job.
      let so_far = took.steps items job in
      (at_end items so_far.0 (ends items (same_job number taken old now before after items took job)), so_far.1);
  left = took.left;
  were = took.were;
} where
  at_end : (items : List StepResult) → taken ≡ steps_from (progress_in_job old) taken items
      → (most ≤ taken) ⊎ (progress_in_job now ≡ length items) → taken ≡ steps_from (progress_in_job old) most items
  at_end items within (inl all) = omega (arith, within, below, all)
  at_end items within (inr over) = omega (arith, within, below, over, placed_at number taken old now before after took)
