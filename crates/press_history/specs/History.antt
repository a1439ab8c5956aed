-- What a run of events tells of a number: what was handed out under it, how its entry was seen last, and with what it entered.
use Rattle.std.specs.Prelude.{◌≡◌, ◌≤◌, ◌++◌, ◌==◌, ◌||◌, ◌&&◌, ℕ, nat_le, List, [], ◌∷◌, length, filter, find, Bool}
use Rattle.std.specs.Prelude.{true, false, not, if◌then◌else◌, Option, Some, None, option_map, option_and_then, Ok, Err}
use Rattle.std.specs.List.{flat_map, sum_by}
use Rattle.std.specs.Option.{option_or}
use Rattle.press_bits.specs.Page.{Page}
use Rattle.press_engine.specs.Machine.{StepResult}
use Rattle.press_queue.specs.declared.entry.Entry.{Entry}
use Rattle.press_queue.specs.declared.status.Status.TheVariants.{Completed}
use Rattle.press_queue.specs.Entries.{entry_numbered}
use Rattle.press_queue.specs.Status.{has_ended, is_in_flight}
use Rattle.press_sink.specs.declared.delivery.Delivery.{Delivery}
use Rattle.press_sink.specs.Sending.{sheets_in}
use Rattle.press_bits.specs.PrintedSheet.{PrintedSheet}
use Rattle.press_ticket.specs.Ticket.{JobTicket}
use Rattle.press_writer.specs.Wanted.{wanted}
use Rattle.press_core.specs.Engines.{is_number}
use Rattle.press_core.specs.Events.{Event, Message, TurnOn, EventAnswer, Turned}
use Rattle.press_history.specs.Runs.{Transition, IsRun}
use Rattle.press_core.specs.Rows.{ticket_in}
use Rattle.press_core.specs.Turns.{IsJobOf, at_turn, is_fault, sheets_from}
use Rattle.press_core.specs.Work.{Work}
use Rattle.press_core.specs.World.{World, new_world, work_numbered}

-- ---- what was handed out

-- the sheets that were delivered under a number
abbrev pub sheets_under : (number : ℕ) → List Delivery → List PrintedSheet
sheets_under number deliveries = sheets_in (filter (λ (delivery : Delivery). delivery.tag == number) deliveries)

-- what events handed out under a number
abbrev pub handed_under : (number : ℕ) → List Transition → List PrintedSheet
handed_under number happenings = sheets_under number (flat_map (λ (happening : Transition). happening.handed) happenings)

-- the sheets that the ticket of a work wants
abbrev pub wanted_of : Work → List PrintedSheet
wanted_of work = wanted work.ticket work.images

-- these are the first of all sheets
abbrev pub IsPrefix : List PrintedSheet → List PrintedSheet → Type 0
IsPrefix sheets all = (others : List PrintedSheet) × (all ≡ sheets ++ others)

-- These are the sheets of the first so many steps of a work's job, and it has as many.
pub record AreFirst (steps : ℕ) (work : Work) (sheets : List PrintedSheet) : Type 0 where
  pub items : List StepResult
  pub is_job : IsJobOf work items
  pub within : steps ≤ length items
  pub sheets_are : sheets ≡ sheets_from 0 steps items

-- What was handed out for an entry, of whose job its turns took so many steps, and perhaps met a fault.
-- in_flight: its progress is these steps, and what was handed out is their sheets. counted: where no turn met a fault, whatever became of
-- the entry, it is the sheets of these steps. completed: it is all sheets that are wanted. prefix: in each case it is the first of those.
-- unbegun: nothing was, where the entry never began. delivered: the work counts the sheets. kept: its images are kept until it ends.
pub record AreGiven (entry : Entry) (work : Work) (steps : ℕ) (failed : Bool) (sheets : List PrintedSheet) : Type 0 where
  pub in_flight : is_in_flight entry ≡ true → (work.progress ≡ Some steps) × AreFirst steps work sheets
  pub counted : failed ≡ false → AreFirst steps work sheets
  pub completed : entry.status ≡ Completed → sheets ≡ wanted_of work
  pub prefix : IsPrefix sheets (wanted_of work)
  pub unbegun : entry.begun ≡ false → sheets ≡ []
  pub delivered : work.delivered ≡ length sheets
  pub kept : work.kept ≡ not (has_ended entry.status)

-- ---- how an entry was seen

-- an entry of the list, and what it is to print
pub record Seen : Type 0 where
  pub entry : Entry
  pub work : Work

abbrev pub both_seen : Option Entry → Option Work → Option Seen
both_seen (Some entry) (Some work) = Some (record { entry = entry; work = work })
both_seen _ _ = None

-- the entry of this number, if it is in the list
abbrev pub seen_in : (number : ℕ) → World → Option Seen
seen_in number world = both_seen (entry_numbered number world.queue.entries) (work_numbered number world)

-- How an entry was seen last: as the last of the worlds shows it that has it in its list, or, where none has, as before them.
abbrev pub seen_after : (number : ℕ) → Option Seen → List Transition → Option Seen
seen_after number before [] = before
seen_after number before (happening ∷ happenings) = seen_after number (option_or (seen_in number happening.next) before) happenings

abbrev pub last_seen : (number : ℕ) → List Transition → Option Seen
last_seen number happenings = seen_after number None happenings

-- ---- with what an entry entered

-- the ticket that an event submits, and its images
abbrev pub submitted_by : Event → Option (JobTicket × List Page)
submitted_by (Message text images) = option_map (λ ticket. (ticket, images)) (ticket_in text images)
submitted_by event = None

-- the first event after which this number is given
abbrev pub entering : (number : ℕ) → List Transition → Option Transition
entering number happenings = find (λ (happening : Transition). nat_le number happening.next.queue.last) happenings

-- the ticket and the images that this event submits
abbrev pub entered_with : (number : ℕ) → List Transition → Option (JobTicket × List Page)
entered_with number happenings = option_and_then (λ (happening : Transition). submitted_by happening.event) (entering number happenings)

-- ---- steps and faults of its own turns

-- the steps that an answer says were taken for this number
abbrev pub steps_answered : (number : ℕ) → EventAnswer → ℕ
steps_answered number (Turned (Ok turn)) = if is_number number turn.entry then turn.steps else 0
steps_answered number answer = 0

-- the steps of the turns of this number in all
abbrev pub steps_in : (number : ℕ) → List Transition → ℕ
steps_in number happenings = sum_by (λ (happening : Transition). steps_answered number happening.answer) happenings

-- whether the answer to an event in a world is a fault in a turn of this number
abbrev pub is_fault_of : (number : ℕ) → World → Event → EventAnswer → Bool
is_fault_of number world (TurnOn engine most) (Turned (Err error)) = is_fault error && is_number number (at_turn engine world).1
is_fault_of number world event answer = false

-- whether a turn of this number met a fault, from a world on
abbrev pub met_fault : (number : ℕ) → World → List Transition → Bool
met_fault number world [] = false
met_fault number world (happening ∷ happenings) =
    is_fault_of number world happening.event happening.answer || met_fault number happening.next happenings

-- In a run of events the entry of a number entered with this ticket and these images, took so many steps in all, and met no
-- fault in its own turns.
pub record TakesInAll (number steps : ℕ) (ticket : JobTicket) (images : List Page) (happenings : List Transition) : Type 0 where
  pub last : World
  pub run : IsRun happenings last
  pub entered : entered_with number happenings ≡ Some (ticket, images)
  pub steps_are : steps_in number happenings ≡ steps
  pub no_fault : met_fault number (new_world run.engines) happenings ≡ false
