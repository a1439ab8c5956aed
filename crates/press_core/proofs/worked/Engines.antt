-- Which entry an engine takes, how many engines there may be, and what aborts those that run, computed.
use Rattle.std.proofs.Common.{◌≡◌, ℕ, zero, suc, List, [], ◌∷◌, map, Option, Some, None, true, false, refl}
use Rattle.press_queue.specs.declared.entry.Entry.{Entry}
use Rattle.press_queue.specs.declared.status.Status.{Status}
use Rattle.press_queue.specs.declared.status.Status.TheVariants as statuses
use Rattle.press_queue.specs.Status.{new_entry}
use Rattle.press_core.specs.declared.operator.OperatorCommand.TheVariants.{AbortRunning}
use Rattle.press_core.specs.Engines.{are_engines}
use Rattle.press_core.specs.Events.{operated}
use Rattle.press_core.specs.Turns.{at_turn, with_turn}
use Rattle.press_core.specs.World.{World, has_engine}

-- one to four engines, counted from 0
pub one_to_four : map are_engines (0 ∷ 1 ∷ 2 ∷ 3 ∷ 4 ∷ 5 ∷ []) ≡ false ∷ true ∷ true ∷ true ∷ true ∷ false ∷ []
one_to_four = refl

abbrev begun : Status → Entry
begun status = record { priority = 50; status = status; begun = true }

-- so many that were begun and suspended, from entry 11 on
abbrev suspended_ones : (from : ℕ) → ℕ → List (ℕ × Entry)
suspended_ones from zero = []
suspended_ones from (suc n) = (from, begun statuses.Suspended) ∷ suspended_ones (suc from) n

abbrev press_with : List (ℕ × Entry) → List (Option ℕ) → World
press_with entries engines = record { queue = record { entries = entries; held = false; closed = false; last = 20 }; paused = false; works = []; engines = engines }

pub there_are_two : map (λ engine. has_engine engine (press_with [] (None ∷ None ∷ []))) (0 ∷ 1 ∷ 2 ∷ []) ≡ true ∷ true ∷ false ∷ []
there_are_two = refl

-- of two engines, the second takes the entry that comes next, beside the first
abbrev beside : World
beside = press_with ((1, begun statuses.Running) ∷ (2, new_entry 50) ∷ []) (Some 1 ∷ None ∷ [])

pub takes_the_next : with_turn 1 beside ≡ press_with ((1, begun statuses.Running) ∷ (2, begun statuses.Running) ∷ []) (Some 1 ∷ Some 2 ∷ [])
takes_the_next = refl

pub goes_on_with_its_own : (at_turn 0 beside).1 ≡ Some 1
goes_on_with_its_own = refl

-- where eight are in flight it takes none that never began, and then one that is resumed
abbrev full : Status → World
full status = press_with ((1, begun statuses.Running) ∷ (2, new_entry 50) ∷ (3, begun status) ∷ suspended_ones 11 6) (Some 1 ∷ None ∷ [])

pub takes_none : (at_turn 1 (full statuses.Suspended)).1 ≡ None
takes_none = refl

pub takes_the_resumed_one : (at_turn 1 (full statuses.Waiting)).1 ≡ Some 3
takes_the_resumed_one = refl

-- every entry that runs is aborted, and the engines are free
pub all_are_aborted : operated AbortRunning (press_with ((1, begun statuses.Running) ∷ (2, new_entry 50) ∷ (3, begun statuses.Running) ∷ []) (Some 3 ∷ None ∷ Some 1 ∷ []))
    ≡ press_with ((1, begun statuses.Aborted) ∷ (2, new_entry 50) ∷ (3, begun statuses.Aborted) ∷ []) (None ∷ None ∷ None ∷ [])
all_are_aborted = refl
