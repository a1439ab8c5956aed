-- What a history of a press of two engines tells of its numbers, computed: entry 1 takes two turns of engine 1, is completed and
-- removed; entry 2 meets a fault in its turn.
use Rattle.std.proofs.Common.{◌≡◌, ℕ, List, [], ◌∷◌, Option, Some, None, Ok, Err, true, false, refl}
use Rattle.press_bits.specs.Page.{blank}
use Rattle.press_queue.specs.declared.entry.Entry.{Entry}
use Rattle.press_queue.specs.declared.status.Status.TheVariants.{Running, Completed, Aborted}
use Rattle.press_queue.specs.State.{QueueState}
use Rattle.press_queue.specs.Status.{new_entry}
use Rattle.press_bits.specs.PrintedSheet.{PrintedSheet}
use Rattle.press_core.specs.declared.operator.OperatorCommand.TheVariants.{AbortRunning, Continue, Pause}
use Rattle.press_core.specs.declared.turn.TurnError.TheVariants.{NoEngine, SinkFault}
use Rattle.press_core.specs.Events.{Event, EventAnswer, Message, Nothing, Operator, Response, TurnOn, Turned}
use Rattle.press_history.specs.Runs.{Transition, IsRun}
use Rattle.press_history.specs.History.{entering, handed_under, last_seen, met_fault, steps_in}
use Rattle.press_core.specs.Work.{Work}
use Rattle.press_core.specs.World.{World, new_world, with_pause}

abbrev sheet_of : (width : ℕ) → PrintedSheet
sheet_of width = record { front = blank width 1; back = None }

abbrev queue_with : List (ℕ × Entry) → QueueState
queue_with entries = record { entries = entries; held = false; closed = false; last = 2 }

-- engine 1 runs this entry, or none
abbrev world_with : List (ℕ × Entry) → List (ℕ × Work) → (running : Option ℕ) → World
world_with entries works running = record { queue = queue_with entries; paused = false; works = works; engines = None ∷ running ∷ [] }

abbrev running_entry : Entry
running_entry = record { priority = 50; status = Running; begun = true }

abbrev completed_entry : Entry
completed_entry = record running_entry { status = Completed }

abbrev aborted_entry : Entry
aborted_entry = record running_entry { status = Aborted }

-- two entries come; 1 takes three steps, and then its last two; it is removed; the turn of 2 has a fault
abbrev both_come : (one two : Work) → Transition
both_come one two =
    record { event = Message [] []; answer = Response (Some []); handed = []; next = world_with ((1, new_entry 50) ∷ (2, new_entry 50) ∷ []) ((1, one) ∷ (2, two) ∷ []) None }

abbrev first_turn : (one two : Work) → Transition
first_turn one two = record {
  event = TurnOn 1 3;
  answer = Turned (Ok (record { entry = Some 1; steps = 3 }));
  handed = record { tag = 1; sheet = sheet_of 1 } ∷ [];
  next = world_with ((1, running_entry) ∷ (2, new_entry 50) ∷ []) ((1, one) ∷ (2, two) ∷ []) (Some 1);
}

abbrev last_turn : (one two : Work) → Transition
last_turn one two = record {
  event = TurnOn 1 3;
  answer = Turned (Ok (record { entry = Some 1; steps = 2 }));
  handed = record { tag = 1; sheet = sheet_of 2 } ∷ [];
  next = world_with ((1, completed_entry) ∷ (2, new_entry 50) ∷ []) ((1, one) ∷ (2, two) ∷ []) None;
}

abbrev removal : (two : Work) → Transition
removal two = record { event = Message [] []; answer = Response (Some []); handed = []; next = world_with ((2, new_entry 50) ∷ []) ((2, two) ∷ []) None }

abbrev failed_turn : (two : Work) → Transition
failed_turn two = record {
  event = TurnOn 1 3;
  answer = Turned (Err SinkFault);
  handed = record { tag = 2; sheet = sheet_of 3 } ∷ [];
  next = world_with ((2, aborted_entry) ∷ []) ((2, two) ∷ []) None;
}

abbrev history : (one two : Work) → List Transition
history one two = both_come one two ∷ first_turn one two ∷ last_turn one two ∷ removal two ∷ failed_turn two ∷ []

-- what was handed out under each number
pub handed_of_one : (one two : Work) → handed_under 1 (history one two) ≡ sheet_of 1 ∷ sheet_of 2 ∷ []
handed_of_one one two = refl

pub handed_of_two : (one two : Work) → handed_under 2 (history one two) ≡ sheet_of 3 ∷ []
handed_of_two one two = refl

-- an entry that left was seen last as it stood before; a number without an entry never
pub completed_one : (one two : Work) → last_seen 1 (history one two) ≡ Some (record { entry = completed_entry; work = one })
completed_one one two = refl

pub aborted_two : (one two : Work) → last_seen 2 (history one two) ≡ Some (record { entry = aborted_entry; work = two })
aborted_two one two = refl

pub never_three : (one two : Work) → last_seen 3 (history one two) ≡ None
never_three one two = refl

-- both entered with the first event
pub entered_two : (one two : Work) → entering 2 (history one two) ≡ Some (both_come one two)
entered_two one two = refl

-- steps and faults of their own turns
pub steps_of_one : (one two : Work) → steps_in 1 (history one two) ≡ 5
steps_of_one one two = refl

pub steps_of_two : (one two : Work) → steps_in 2 (history one two) ≡ 0
steps_of_two one two = refl

pub no_fault_of_one : (one two : Work) → met_fault 1 (new_world 2) (history one two) ≡ false
no_fault_of_one one two = refl

pub fault_of_two : (one two : Work) → met_fault 2 (new_world 2) (history one two) ≡ true
fault_of_two one two = refl

-- A run from a new press of two engines. It is paused, and its turns do nothing; a message meets want of memory. It goes on: no entry
-- waits, and none runs that an operator could abort. There is no third engine.
abbrev nothing_of : (event : Event) → EventAnswer → World → Transition
nothing_of event answer next = record { event = event; answer = answer; handed = []; next = next }

abbrev no_turn : EventAnswer
no_turn = Turned (Ok (record { entry = None; steps = 0 }))

abbrev beginning : World
beginning = new_world 2

abbrev silent_run : List Transition
silent_run =
    nothing_of (Operator Pause) Nothing (with_pause true beginning) ∷ nothing_of (TurnOn 1 3) no_turn (with_pause true beginning)
    ∷ nothing_of (Message [] []) (Response None) (with_pause true beginning) ∷ nothing_of (Operator Continue) Nothing beginning
    ∷ nothing_of (TurnOn 0 3) no_turn beginning ∷ nothing_of (Operator AbortRunning) Nothing beginning
    ∷ nothing_of (TurnOn 2 3) (Turned (Err NoEngine)) beginning ∷ []

pub quiet_run_is : IsRun silent_run beginning
quiet_run_is = record {
  engines = 2;
  are = refl;
  leads = ((refl, refl), ((refl, refl, refl), ((refl, refl), ((refl, refl), ((refl, refl, refl), ((refl, refl), ((refl, refl, refl), refl)))))));
}

-- an engine that is not there is no fault of an entry
pub no_engine_no_fault : (number : ℕ) → met_fault number beginning silent_run ≡ false
no_engine_no_fault number = refl
