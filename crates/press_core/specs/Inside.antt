-- What is true of a press and of its works. No public clause cites this.
use Rattle.std.specs.Prelude.{◌≡◌, ℕ, List, not, true, Option, Some, None, IfSome, IsSome, option_map, option_and_then, is_some, nat_eq, Result, Ok, Err}
use Rattle.std.specs.declared.alloc.AllocError.{AllocError}
use Rattle.std.specs.Map.{lookup}
use Rattle.press_engine.specs.Machine.{StepResult}
use Rattle.press_queue.specs.declared.entry.Entry.{Entry}
use Rattle.press_queue.specs.declared.status.End.TheVariants.{Aborted}
use Rattle.press_queue.specs.Rows.{finish_entry}
use Rattle.press_queue.specs.State.{QueueState}
use Rattle.press_queue.specs.Entries.{entry_numbered}
use Rattle.press_queue.specs.Status.{has_ended, is_in_flight, is_running}
use Rattle.press_core.specs.declared.work.RunningJob.{RunningJob}
use Rattle.press_core.specs.declared.work.Work.TheInside.{Inside}
use Rattle.press_core.specs.Engines.{RunsOnEngines}
use Rattle.press_core.specs.Jobs.{IsAt}
use Rattle.press_core.specs.Turns.{IsJobOf, aborted, progress_in_job, at_turn, with_turn}
use Rattle.press_core.specs.Work.{Work, IsPrintable, at_progress}
use Rattle.press_core.specs.World.{work_changed, World, given_up, with_queue, work_numbered}

abbrev pub work_of : Inside → Work
work_of work = record {
  ticket = work.ticket;
  images = work.entered.value.items;
  delivered = work.delivered;
  progress = option_map (λ running. running.steps) work.running;
  kept = is_some work.images;
}

-- it is at its place in the job of the work
abbrev pub IsJobAt : Work → RunningJob → Type 0
IsJobAt work running = (items : List StepResult) × IsJobOf work items × IsAt items work.images running

-- Its ticket is printed with its images, and its job stands at its place. The images that are kept are those with which it entered,
-- and while it has a job they are kept.
pub record IsSoundWork (work : Inside) : Type 0 where
  pub printable : IsPrintable (work_of work).ticket (work_of work).images
  pub stands : IfSome work.running (λ running. IsJobAt (work_of work) running)
  pub same : IfSome work.images (λ images. images.items ≡ work.entered.value.items)
  pub needed : IfSome work.running (λ running. IsSome work.images)

-- the entry of this number has begun: its work has a place in its job
abbrev pub HasProgress : List (ℕ × Work) → (number : ℕ) → Type 0
HasProgress works number = IsSome (option_and_then (λ work. work.progress) (lookup (nat_eq number) works))

-- An entry and its work: the work stands at a place of its job exactly where the entry is in flight; its images are kept exactly where
-- the entry has not ended; and an entry that runs has begun.
pub record AreTogether (entry : Entry) (work : Work) : Type 0 where
  pub in_flight : is_some work.progress ≡ is_in_flight entry
  pub kept : work.kept ≡ not (has_ended entry.status)
  pub begun : is_running entry.status ≡ true → entry.begun ≡ true

abbrev pub GoTogether : Option Entry → Option Work → Type 0
GoTogether (Some entry) (Some work) = AreTogether entry work
GoTogether None None = Unit {0}
GoTogether (Some entry) None = ⊥
GoTogether None (Some work) = ⊥

-- the entry that an engine runs, if it runs one, is aborted, and its job given up
abbrev pub aborted_on : Option ℕ → World → World
aborted_on None world = world
aborted_on (Some number) world = given_up number (with_queue (finish_entry number Aborted world.queue) world)

-- a work that has begun: at the place that it had, or at the first
abbrev pub begun_work : Work → Work
begun_work work = at_progress (progress_in_job work) work

abbrev pub begun_works : ℕ → List (ℕ × Work) → List (ℕ × Work)
begun_works = work_changed begun_work

-- the works of a world after that of an entry began
abbrev pub with_begun : ℕ → World → World
with_begun number world = record world { works = begun_works number world.works }

-- What a turn of an engine begins with: it runs no entry; or it runs this one, which has begun; or memory ran out as it began, and
-- it is aborted.
abbrev pub Begins : (engine : ℕ) → World → Result (Option ℕ) AllocError → World → Type 0
Begins engine old (Ok None) new = ((at_turn engine old).1 ≡ None) × (new ≡ with_turn engine old)
Begins engine old (Ok (Some number)) new = ((at_turn engine old).1 ≡ Some number) × (new ≡ with_begun number (with_turn engine old))
Begins engine old (Err error) new =
    (number : ℕ) × (work : Work) × ((at_turn engine old).1 ≡ Some number) × (work_numbered number old ≡ Some work)
    × (new ≡ aborted number work (with_turn engine old))

-- There is a work for each entry of the queue, and for no other, and they go together.
pub record IsSound (queue : QueueState) (works : List (ℕ × Work)) : Type 0 where
  pub together : (number : ℕ) → GoTogether (entry_numbered number queue.entries) (lookup (nat_eq number) works)

-- What holds of a press between calls: its queue and works are sound, and each entry that runs is on an engine of its own.
pub record IsPress (queue : QueueState) (works : List (ℕ × Work)) (engines : List (Option ℕ)) : Type 0 where
  pub sound : IsSound queue works
  pub on_engines : RunsOnEngines queue engines
