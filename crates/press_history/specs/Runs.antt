-- Runs of events: what happens to a press, one event after another.
use Rattle.std.specs.Prelude.{◌≡◌, ℕ, List, [], ◌∷◌, IsTrue, Some, ⊤, Ok}
use Rattle.press_sink.specs.declared.delivery.Delivery.{Delivery}
use Rattle.press_core.specs.Engines.{are_engines}
use Rattle.press_core.specs.Events.{Event, EventAnswer, Response, Turned, Nothing, Happens}
use Rattle.press_core.specs.World.{World, new_world}

-- An event has its answer: a message its response, and a turn what it did. The operator's commands have none; each is carried out.
abbrev pub IsAnswered : EventAnswer → Type 0
IsAnswered (Response (Some bytes)) = ⊤
IsAnswered (Turned (Ok turn)) = ⊤
IsAnswered Nothing = ⊤
IsAnswered answer = ⊥

-- an event with its answer, the sheets that were handed out, and the world after it
pub record Transition : Type 0 where
  pub event : Event
  pub answer : EventAnswer
  pub handed : List Delivery
  pub next : World

-- The events happen one after another, from one world to another.
abbrev pub IsExecution : World → List Transition → World → Type 0
IsExecution world [] last = last ≡ world
IsExecution world (happening ∷ happenings) last =
    Happens world happening.event happening.answer happening.handed happening.next × IsExecution happening.next happenings last

-- the world after these events; the one before, where there is none
abbrev pub world_after : World → List Transition → World
world_after world [] = world
world_after world (happening ∷ happenings) = world_after happening.next happenings

-- A run of events begins with a press at its beginning, of one to four engines.
pub record IsRun (happenings : List Transition) (last : World) : Type 0 where
  pub engines : ℕ
  pub are : IsTrue (are_engines engines)
  pub leads : IsExecution (new_world engines) happenings last
