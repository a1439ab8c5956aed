-- How a number stands, and what happens to it in one event.
use Rattle.std.proofs.Common.{◌≡◌, ◌≤◌, ◌+◌, ◌-◌, ◌++◌, ◌⊎◌, ℕ, nat_le, not, Bool, true, false, List, [], length, Option, Some, None}
use Rattle.std.proofs.Common.{is_some, unwrap_or, refl, sym, ap, true≢false, arith}
use Rattle.std.specs.Prelude.{⊤}
use Rattle.std.specs.Option.{option_map_or}
use Rattle.press_bits.specs.Page.{Page}
use Rattle.press_engine.specs.Machine.{StepResult}
use Rattle.press_queue.specs.declared.entry.Entry.{Entry}
use Rattle.press_queue.specs.declared.status.Status.TheVariants as statuses
use Rattle.press_queue.specs.Entries.{entry_numbered}
use Rattle.press_queue.specs.EveryQueue.{IsQueue}
use Rattle.press_queue.specs.Status.{has_ended, is_running, new_entry}
use Rattle.press_bits.specs.PrintedSheet.{PrintedSheet}
use Rattle.press_sink.specs.declared.delivery.Delivery.{Delivery}
use Rattle.press_ticket.specs.Ticket.{JobTicket}
use Rattle.press_core.specs.Engines.{RunsOnEngines}
use Rattle.press_core.specs.Events.{Event, EventAnswer}
use Rattle.press_core.specs.Turns.{IsJobOf, progress_in_job, sheets_from}
use Rattle.press_core.specs.Work.{IsPrintable, Work, new_work, with_delivered, without_job}
use Rattle.press_core.specs.World.{World, work_numbered}
use Rattle.press_core.proofs.JobLemmas.{IsJobOf-some}
use Rattle.press_history.specs.History.{both_seen, is_fault_of, sheets_under, steps_answered, submitted_by}

-- ---- how a number stands

-- whether it was given, its entry in the list, and its work
pub record Standing : Type 0 where
  pub given : Bool
  pub entry : Option Entry
  pub work : Option Work

abbrev pub stands : (given : Bool) → Option Entry → Option Work → Standing
stands given entry work = record { given = given; entry = entry; work = work }

abbrev pub standing : (number : ℕ) → World → Standing
standing number world = stands (nat_le number world.queue.last) (entry_numbered number world.queue.entries) (work_numbered number world)

-- it was not given yet; its entry is in the list, with its work; it was given, and its entry left the list
abbrev pub unknown : Standing
unknown = stands false None None

abbrev pub listed : Entry → Work → Standing
listed entry work = stands true (Some entry) (Some work)

abbrev pub gone : Standing
gone = stands true None None

-- it is one of these, and an entry that runs has begun
abbrev pub AreProper : (given : Bool) → Option Entry → Option Work → Type 0
AreProper given (Some entry) (Some work) = (given ≡ true) × (is_running entry.status ≡ true → entry.begun ≡ true)
AreProper given None None = ⊤
AreProper given (Some entry) None = ⊥
AreProper given None (Some work) = ⊥

abbrev pub IsProper : Standing → Type 0
IsProper s = AreProper s.given s.entry s.work

-- So stands each number of a press. Its queue is one, and each entry that runs is on an engine of its own.
pub record IsWhole (world : World) : Type 0 where
  pub queue : IsQueue world.queue
  pub proper : (n : ℕ) → IsProper (standing n world)
  pub on_engines : RunsOnEngines world.queue world.engines

-- an entry of the list has its work
listed_is : (given : Bool) (o : Option Entry) (p : Option Work) (entry : Entry) → AreProper given o p → o ≡ Some entry → (work : Work) × (stands given o p ≡ listed entry work)
listed_is given (Some e) (Some w) entry proper is = (w, λ j. stands (proper.0 j) (is j) (Some w))
listed_is given (Some e) None entry proper is = absurd proper
listed_is given None p entry proper is = absurd (true≢false (sym (ap is_some is)))

pub listed_in : (number : ℕ) (world : World) (entry : Entry) → IsWhole world → entry_numbered number world.queue.entries ≡ Some entry
    → (work : Work) × (standing number world ≡ listed entry work)
listed_in number world entry whole there = grind (arith, listed_is)

pub both_listed : (given : Bool) (o : Option Entry) (p : Option Work) → AreProper given o p → is_some o ≡ true → is_some (both_seen o p) ≡ true
both_listed given o p proper some = grind arith

-- a number that was not given has no entry and no work
pub unlisted : (number : ℕ) (world : World) → IsWhole world → nat_le number world.queue.last ≡ false → (entry_numbered number world.queue.entries ≡ None) × (work_numbered number world ≡ None)
unlisted number world whole above = grind arith

-- ---- what happens to a number

-- What an event does for a number: what it submits, what is handed out under the number, how many steps of its job are taken, and
-- whether it meets a fault.
pub record Done : Type 0 where
  pub submits : Option (JobTicket × List Page)
  pub sheets : List PrintedSheet
  pub steps : ℕ
  pub failed : Bool

abbrev pub done_in : World → Event → EventAnswer → List Delivery → (number : ℕ) → Done
done_in world event answer handed number = record {
  submits = submitted_by event;
  sheets = sheets_under number handed;
  steps = steps_answered number answer;
  failed = is_fault_of number world event answer;
}

abbrev pub nothing : Option (JobTicket × List Page) → Done
nothing submits = record { submits = submits; sheets = []; steps = 0; failed = false }

-- nothing is handed out, no step taken, and no fault met
pub record IsIdle (done : Done) : Type 0 where
  pub no_sheets : done.sheets ≡ []
  pub no_steps : done.steps ≡ 0
  pub no_fault : done.failed ≡ false

pub idle : (submits : Option (JobTicket × List Page)) → IsIdle (nothing submits)
idle submits = record { no_sheets = refl; no_steps = refl; no_fault = refl }

abbrev pub IsOpen : Entry → Type 0
IsOpen entry = has_ended entry.status ≡ false

-- Steps of a work's job from its place on. The sheets are a prefix of theirs; without a fault they are all, and the steps are counted.
pub record StepsOf (work : Work) (items : List StepResult) (done : Done) : Type 0 where
  pub is_job : IsJobOf work items
  pub steps : ℕ
  pub few : steps ≤ length items - progress_in_job work
  pub others : List PrintedSheet
  pub front : done.sheets ++ others ≡ sheets_from (progress_in_job work) steps items
  pub all : done.failed ≡ false → (done.steps ≡ steps) × (others ≡ [])

-- none are taken
pub no_steps : (work : Work) (submits : Option (JobTicket × List Page)) → (items : List StepResult) × StepsOf work items (nothing submits)
no_steps work submits = grind (arith, IsJobOf-some work)

-- An entry may go on as another, with its work at this place: neither has ended, and it began exactly where the work has a place.
pub record MayGoOn (was is : Entry) (work : Work) (progress : Option ℕ) (done : Done) : Type 0 where
  pub was_open : IsOpen was
  pub is_open : IsOpen is
  pub runs : is_running is.status ≡ true → is.begun ≡ true
  pub begun : was.begun ≡ is_some work.progress → is.begun ≡ is_some progress
  pub unbegun : is.begun ≡ false → (was.begun ≡ false) × (done.sheets ≡ [])
  pub place : unwrap_or progress 0 ≡ progress_in_job work + done.steps
  pub well : done.failed ≡ false

-- an entry that is completed, or aborted
abbrev pub completed_entry : Entry → Entry
completed_entry entry = record entry { status = statuses.Completed; begun = true }

abbrev pub aborted_as : (begun : Bool) → Entry → Entry
aborted_as begun entry = record entry { status = statuses.Aborted; begun = begun }

-- What happens to a number in one event.
pub data Change (done : Done) (old new : Standing) : Type 0 where
  Stays : new ≡ old → IsIdle done → Change done old new
  Enters : (priority : ℕ) (ticket : JobTicket) (images : List Page) → done.submits ≡ Some (ticket, images) → IsPrintable ticket images
      → old ≡ unknown → new ≡ listed (new_entry priority) (new_work ticket images) → IsIdle done → Change done old new
  GoesOn : (was is : Entry) (work : Work) (progress : Option ℕ) (items : List StepResult) → MayGoOn was is work progress done → StepsOf work items done
      → old ≡ listed was work → new ≡ listed is (record (with_delivered done.sheets work) { progress = progress }) → Change done old new
  Completes : (was : Entry) (work : Work) (items : List StepResult) → IsOpen was → StepsOf work items done → done.failed ≡ false
      → progress_in_job work + done.steps ≡ length items
      → old ≡ listed was work → new ≡ listed (completed_entry was) (without_job (with_delivered done.sheets work)) → Change done old new
  Aborts : (was : Entry) (begun : Bool) (work : Work) (items : List StepResult) → IsOpen was → StepsOf work items done
      → (begun ≡ false → (was.begun ≡ false) × (done.sheets ≡ []))
      → old ≡ listed was work → new ≡ listed (aborted_as begun was) (without_job (with_delivered done.sheets work)) → Change done old new
  Leaves : (was : Entry) (work : Work) → old ≡ listed was work → new ≡ gone → IsIdle done → Change done old new

-- What an event makes of a world: its queue is still one, its entries that run are on engines, there are as many engines, and this
-- happens to each number.
pub record Becomes (old new : World) (done : ℕ → Done) : Type 0 where
  pub queue : IsQueue new.queue
  pub on_engines : RunsOnEngines new.queue new.engines
  pub count : length new.engines ≡ length old.engines
  pub each : (n : ℕ) → Change (done n) (standing n old) (standing n new)

pub same-becomes : (world : World) (done : ℕ → Done) → IsWhole world → ((n : ℕ) → IsIdle (done n)) → Becomes world world done
same-becomes world done whole quiet = record { queue = whole.queue; on_engines = whole.on_engines; count = refl; each = λ n. Stays refl (quiet n) }

-- ---- each event leaves the standings proper

pub whole-next : (old new : World) (done : ℕ → Done) → IsWhole old → Becomes old new done → IsWhole new
whole-next old new done whole becomes = grind arith

-- ---- a number whose entry has ended, or left the list

pub record IsOver (s : Standing) : Type 0 where
  pub given : s.given ≡ true
  pub ended : option_map_or (λ entry. not (has_ended entry.status)) s.entry false ≡ false

-- It stays, or leaves the list, and nothing is handed out under it.
pub over-kept : (done : Done) (old new : Standing) → Change done old new → IsOver old → ((new ≡ old) ⊎ (new ≡ gone)) × (done.sheets ≡ [])
over-kept done old new h1 over = grind arith
