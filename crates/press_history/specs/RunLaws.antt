-- The laws of jobs and of runs of events, as statements.
use Rattle.std.specs.Prelude.{◌≡◌, ◌≢◌, ◌≤◌, ◌+◌, ◌++◌, ℕ, List, [], ◌∷◌, length, false, true, IsSome, IsTrue, Some, None}
use Rattle.std.specs.List.{All}
use Rattle.press_bits.specs.Page.{Page}
use Rattle.press_engine.specs.Machine.{StepResult}
use Rattle.press_queue.specs.declared.entry.Entry.{Entry}
use Rattle.press_queue.specs.Entries.{entry_numbered, running_ones}
use Rattle.press_queue.specs.EveryQueue.{IsQueue}
use Rattle.press_queue.specs.Rows.{entry_runs}
use Rattle.press_queue.specs.Status.{has_ended}
use Rattle.press_ticket.specs.Pages.{page_order}
use Rattle.press_ticket.specs.Ticket.{JobTicket}
use Rattle.press_writer.specs.Fitting.{IsImage, refusal}
use Rattle.press_writer.specs.JobLaws.{most_sheets}
use Rattle.press_writer.specs.Left.{most_job_commands}
use Rattle.press_writer.specs.Wanted.{image_of, wanted}
use Rattle.press_core.specs.Engines.{RunsOnEngines, are_engines}
use Rattle.press_core.specs.Events.{Event, TurnOn}
use Rattle.press_history.specs.Runs.{Transition, IsRun, IsExecution, world_after}
use Rattle.press_history.specs.History.{AreGiven, Seen, TakesInAll, entered_with, handed_under, last_seen, met_fault, seen_in, steps_in}
use Rattle.press_core.specs.Turns.{IsJobOf, at_turn, sheets_from}
use Rattle.press_core.specs.Work.{Work, IsPrintable, new_work}
use Rattle.press_core.specs.World.{World, is_listed, new_world}

-- The sheets of all steps of a work's job are those that its ticket wants, where the ticket is printed with its images.
abbrev pub JobsHandOutTheWantedSheets : Type 0
JobsHandOutTheWantedSheets =
    (work : Work) (items : List StepResult) → refusal work.ticket work.images ≡ None
    → All (λ page. IsImage (image_of work.images page)) (page_order work.ticket.run_list) → IsJobOf work items
    → sheets_from 0 (length items) items ≡ wanted work.ticket work.images

-- the most steps of a job
abbrev pub most_steps : ℕ
most_steps = most_job_commands + 1

-- The job of a ticket that is printed with its images has at most so many steps, and at most so many sheets are wanted.
pub record JobsAreShort : Type 0 where
  pub steps : (work : Work) (items : List StepResult) → IsPrintable work.ticket work.images → IsJobOf work items → length items ≤ most_steps
  pub sheets : (ticket : JobTicket) (images : List Page) → IsPrintable ticket images → length (wanted ticket images) ≤ most_sheets

-- What was handed out under a number in a run of events. The entry of that number is taken as it was seen last: as it stands in the list,
-- or as it stood before it left it.
-- given: what was handed out is what that entry says, with the steps that the answers to its turns tell in all, and whether one of them
-- met a fault. entered: it has the ticket and the images with which it entered. listed: an entry of the list was seen last there.
-- has_work: an entry of the list has its work. few: its job has at most most_steps steps. never: under a number that was never seen
-- nothing was handed out, and no step was taken.
pub record GivenUnder (first : World) (happenings : List Transition) (last : World) (number : ℕ) : Type 0 where
  pub given : (seen : Seen) → last_seen number happenings ≡ Some seen
      → AreGiven seen.entry seen.work (steps_in number happenings) (met_fault number first happenings) (handed_under number happenings)
  pub entered : (seen : Seen) → last_seen number happenings ≡ Some seen
      → entered_with number happenings ≡ Some (seen.work.ticket, seen.work.images)
  pub listed : is_listed number last.queue ≡ true → last_seen number happenings ≡ seen_in number last
  pub has_work : is_listed number last.queue ≡ true → IsSome (seen_in number last)
  pub few : (seen : Seen) → last_seen number happenings ≡ Some seen
      → (items : List StepResult) → IsJobOf seen.work items → length items ≤ most_steps
  pub never : last_seen number happenings ≡ None → (handed_under number happenings ≡ []) × (steps_in number happenings ≡ 0)

-- From a world of a run on, nothing is handed out under a number whose entry left the list, and it has no entry again.
pub record StaysGone (after : List Transition) (last : World) (number : ℕ) : Type 0 where
  pub nothing : handed_under number after ≡ []
  pub absent : is_listed number last.queue ≡ false

-- The law of given sheets: so it is in every run of events, under every number.
pub record SheetsAreGiven : Type 0 where
  pub under : (happenings : List Transition) (last : World) (number : ℕ) → (run : IsRun happenings last)
      → GivenUnder (new_world run.engines) happenings last number
  pub gone : (before after : List Transition) (mid last : World) (number : ℕ) → IsRun before mid → IsExecution mid after last
      → number ≤ mid.queue.last → is_listed number mid.queue ≡ false → StaysGone after last number

-- An event in this world is a turn of this number: that of an engine which runs its entry, or on which that begins. It runs then.
pub record IsTurnOf (number : ℕ) (world : World) (event : Event) : Type 0 where
  pub engine : ℕ
  pub most : ℕ
  pub is : event ≡ TurnOn engine most
  pub takes : (at_turn engine world).1 ≡ Some number
  pub runs : entry_runs number (at_turn engine world).0 ≡ true

-- When events from a world on hand something out under a number.
-- only: only in turns of its entry, while that runs. never_again: not from a world on in which that has ended, completed or aborted.
pub record DeliversWhileItRuns (first : World) (happenings : List Transition) (number : ℕ) : Type 0 where
  pub only : (before after : List Transition) (happening : Transition) → happenings ≡ before ++ happening ∷ after
      → handed_under number (happening ∷ []) ≢ [] → IsTurnOf number (world_after first before) happening.event
  pub never_again : (before after : List Transition) (entry : Entry) → happenings ≡ before ++ after
      → entry_numbered number (world_after first before).queue.entries ≡ Some entry → has_ended entry.status ≡ true
      → handed_under number after ≡ []

-- So it is in every run of events, under every number.
abbrev pub EntriesDeliverWhileTheyRun : Type 0
EntriesDeliverWhileTheyRun =
    (happenings : List Transition) (last : World) (number : ℕ) → (run : IsRun happenings last)
    → DeliversWhileItRuns (new_world run.engines) happenings number

-- The law of no interference. Two entries of two runs have the same ticket and images. Neither met a fault in its own turns, and their
-- turns took as many steps in all.
-- alike: they were handed out alike, whatever else came in the two runs. sheets: that is the sheets of so many steps of the job.
pub record EntriesDoNotInterfere : Type 0 where
  pub alike : (ticket : JobTicket) (images : List Page) (steps one other : ℕ) (first second : List Transition)
      → TakesInAll one steps ticket images first → TakesInAll other steps ticket images second
      → handed_under one first ≡ handed_under other second
  pub sheets : (ticket : JobTicket) (images : List Page) (steps number : ℕ) (happenings : List Transition) (items : List StepResult)
      → TakesInAll number steps ticket images happenings → IsJobOf (new_work ticket images) items
      → handed_under number happenings ≡ sheets_from 0 steps items

-- The law of bounds, of every run of events.
-- on_engines: each entry that runs is on an engine of its own, one of one to four. count: the press has
-- as many engines as in the beginning. running: at most as many entries run as there are engines.
-- queue: at most eight entries are in flight, and at most 64 are in the list, under numbers that differ. once: a number that was given is
-- not given again.
pub record EntriesAreBounded : Type 0 where
  pub on_engines : (happenings : List Transition) (last : World) → IsRun happenings last → RunsOnEngines last.queue last.engines
  pub count : (happenings : List Transition) (last : World) → (run : IsRun happenings last) → length last.engines ≡ run.engines
  pub running : (happenings : List Transition) (last : World) → IsRun happenings last
      → length (running_ones last.queue.entries) ≤ length last.engines
  pub queue : (happenings : List Transition) (last : World) → IsRun happenings last → IsQueue last.queue
  pub once : (before after : List Transition) (mid last : World) (number : ℕ) → IsRun before mid → IsExecution mid after last
      → number ≤ mid.queue.last → is_listed number mid.queue ≡ false → is_listed number last.queue ≡ false

-- By these happenings a new press of so many engines came to this world. Under each number was handed out what its entry says, as it was
-- seen last, with the steps that its turns were answered; only in those turns, while it ran; and nothing more once it had ended. Each
-- entry that runs is on an engine of its own, there are as many engines, and the queue is as every queue is.
pub record ComesFromNew (engines : ℕ) (happenings : List Transition) (last : World) : Type 0 where
  pub given : (number : ℕ) → GivenUnder (new_world engines) happenings last number
  pub delivers : (number : ℕ) → DeliversWhileItRuns (new_world engines) happenings number
  pub on_engines : RunsOnEngines last.queue last.engines
  pub count : length last.engines ≡ engines
  pub queue : IsQueue last.queue

-- The law of new presses: so it is of every one of one to four engines, whatever happens.
abbrev pub NewPressesComeSo : Type 0
NewPressesComeSo =
    (engines : ℕ) (happenings : List Transition) (last : World) → IsTrue (are_engines engines)
    → IsExecution (new_world engines) happenings last → ComesFromNew engines happenings last
