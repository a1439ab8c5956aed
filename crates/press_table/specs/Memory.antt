-- Which rows of the command table may take memory.
use Rattle.std.specs.Prelude.{◌≢◌, ◌⊎◌, false, []}
use Rattle.press_table.specs.declared.state.State.{State}
use Rattle.press_table.specs.Closing.{after_close}
use Rattle.press_table.specs.Outcome.{Outcome, Effect, Changes, MayAllocate, GivesReply, Stays, Closes, Starts}

-- whether something goes out, or the front that waits changes
abbrev pub Shows : (before : State) → Outcome → Type 0
Shows before outcome = (outcome.outputs ≢ []) ⊎ (outcome.state.pending ≢ before.pending)

-- Whether an effect may take memory. A plain change takes none. A mark, a pattern, a recorded command, a reply, a page that closes and a
-- body that starts may. Where a page without a mark stays, memory may be taken if something goes out or the front that waits changes.
abbrev pub TakesMemory : Effect → Type 0
TakesMemory (Changes state) = ⊥
TakesMemory (MayAllocate state) = Unit {0}
TakesMemory (GivesReply reply state) = Unit {0}
TakesMemory (Stays cause state) = Shows state (after_close false cause state)
TakesMemory (Closes cause state) = Unit {0}
TakesMemory (Starts commands end state) = Unit {0}
