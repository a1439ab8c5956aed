-- What happens to a press, one event after another.
use Rattle.std.specs.Prelude.{◌≡◌, ℕ, List, [], ◌∷◌, ◌++◌, true, Some, map, option_map, unwrap_or, Ok, Err}
use Rattle.std.specs.List.{All, flat_map, sum_by}
use Rattle.press_devices.specs.Writing.{AppendsPrefix}
use Rattle.press_sink.specs.SinkLog.{SheetLog}
use Rattle.press_core.specs.declared.turn.Turn.{Turn}
use Rattle.press_core.specs.declared.turn.TurnError.{TurnError}
use Rattle.press_core.specs.declared.turn.TurnError.TheVariants.{NoMemory}
use Rattle.press_core.specs.Events.{Event, Message, TurnOn, Operator, EventAnswer, Response, Turned, Nothing}
use Rattle.press_history.specs.History.{Seen, seen_in, steps_answered}
use Rattle.press_history.specs.Runs.{Transition, IsAnswered, IsExecution}
use Rattle.press_queue.specs.Status.{is_in_flight}
use Rattle.press_core.specs.Turns.{WereHandedOut}
use Rattle.press_core.specs.World.{World}
use Rattle.press_theorem.specs.declared.events.PressEvent.{PressEvent}
use Rattle.press_theorem.specs.declared.events.PressEvent.TheVariants as events

-- the event of the press's world
abbrev pub event_of : PressEvent → Event
event_of (events.Message text images) = Message text.now images.now
event_of (events.Turn engine most) = TurnOn engine most
event_of (events.Operator command) = Operator command

-- a response, with a line feed; nothing of an event that has none
abbrev pub line_of : EventAnswer → List ℕ
line_of (Response (Some bytes)) = bytes ++ 10 ∷ []
line_of _ = []

-- what a turn did; nothing of another event
abbrev pub turns_of : EventAnswer → List Turn
turns_of (Turned (Ok turn)) = turn ∷ []
turns_of _ = []

-- What a call makes of the sink of its sheets, of the responses, and of the answers of turns: what they are before and after it.
pub record EventOutputs : Type 0 where
  pub before : SheetLog
  pub after : SheetLog
  pub old : List ℕ
  pub new : List ℕ
  pub had : List Turn
  pub has : List Turn

abbrev pub handing : (before after : SheetLog) (old new : List ℕ) (had has : List Turn) → EventOutputs
handing before after old new had has = record { before = before; after = after; old = old; new = new; had = had; has = has }

-- The events happened one after another, from one world to another, and each has its answer. The sink took all sheets that they handed
-- out, in order, and had no fault; their responses were appended, each with a line feed; and what their turns did was handed back, in
-- order.
pub record HappenAll (world : World) (events : List Event) (last : World) (outputs : EventOutputs) : Type 0 where
  pub happenings : List Transition
  pub are : map (λ happening. happening.event) happenings ≡ events
  pub leads : IsExecution world happenings last
  pub answered : All (λ happening. IsAnswered happening.answer) happenings
  pub told : outputs.after.delivered
      ≡ option_map (λ all. all ++ flat_map (λ happening. happening.handed) happenings) outputs.before.delivered
  pub no_fault : outputs.after.faults ≡ outputs.before.faults
  pub responses : outputs.new ≡ outputs.old ++ flat_map (λ happening. line_of happening.answer) happenings
  pub turns : outputs.has ≡ outputs.had ++ flat_map (λ happening. turns_of happening.answer) happenings

-- What a fault leaves of the answer of its event, and of the responses. A turn is answered by it, and nothing is appended. At a message
-- memory ran out, and a prefix of its response is appended, without a line feed; nothing where it has none. The operator meets no fault.
abbrev pub FaultLeaves : EventAnswer → TurnError → (old new : List ℕ) → Type 0
FaultLeaves (Turned result) error old new = (result ≡ Err error) × (new ≡ old)
FaultLeaves (Response response) error old new = (error ≡ NoMemory) × AppendsPrefix (Some old) (Some new) (unwrap_or response [])
FaultLeaves Nothing error old new = ⊥

-- The events happened up to a fault. A prefix of them happened, and had none; then one was stopped by the fault, and those behind it did
-- not happen. Of the one that was stopped the sink took what it handed out, and had a fault exactly where that is answered. What the turns
-- of the prefix did was handed back, and nothing of the one that was stopped.
pub record HappenUpTo (error : TurnError) (world : World) (events : List Event) (last : World) (outputs : EventOutputs) : Type 0 where
  pub prefix : List Event
  pub stopped : Transition
  pub behind : List Event
  pub are : events ≡ prefix ++ stopped.event ∷ behind
  pub between : World
  pub told : SheetLog
  pub said : List ℕ
  pub happened : HappenAll world prefix between (handing outputs.before told outputs.old said outputs.had outputs.has)
  pub leads : IsExecution between (stopped ∷ []) last
  pub handed : WereHandedOut {A = Turn} stopped.handed (Err error) told outputs.after
  pub leaves : FaultLeaves stopped.answer error said outputs.new

-- Before a turn room is taken for what it will have done, and memory ran out for it. The events before the turn happened, and had no fault;
-- it did not happen, nor did those behind it.
pub record HappenBeforeTurn (error : TurnError) (world : World) (events : List Event) (last : World) (outputs : EventOutputs) : Type 0 where
  pub prefix : List Event
  pub engine : ℕ
  pub most : ℕ
  pub behind : List Event
  pub are : events ≡ prefix ++ TurnOn engine most ∷ behind
  pub happened : HappenAll world prefix last outputs
  pub is_memory : error ≡ NoMemory

-- The events happened up to a fault, or to a turn for which there was no room.
pub data HappenSome (error : TurnError) (world : World) (events : List Event) (last : World) (outputs : EventOutputs) : Type 0 where
  UpTo : HappenUpTo error world events last outputs → HappenSome error world events last outputs
  BeforeTurn : HappenBeforeTurn error world events last outputs → HappenSome error world events last outputs

-- what happened then
abbrev pub happened_in : {error : TurnError} {world : World} {events : List Event} {last : World} {outputs : EventOutputs}
    → HappenSome error world events last outputs → List Transition
happened_in (UpTo some) = some.happened.happenings ++ some.stopped ∷ []
happened_in (BeforeTurn some) = some.happened.happenings

-- the steps that turns took for an entry, in all
abbrev pub steps_told : (number : ℕ) → List Turn → ℕ
steps_told number turns = sum_by (λ turn. steps_answered number (Turned (Ok turn))) turns

-- What was handed back behind what had been tells the place of each entry in flight: the steps that were taken of its job are those that its
-- turns took in all.
abbrev pub TellPlaces : (had has : List Turn) → World → Type 0
TellPlaces had has world =
    (taken : List Turn) × (has ≡ had ++ taken)
    × ((number : ℕ) (seen : Seen) → seen_in number world ≡ Some seen → is_in_flight seen.entry ≡ true
    → seen.work.progress ≡ Some (steps_told number taken))
