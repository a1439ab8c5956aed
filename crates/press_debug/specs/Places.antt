-- The place of a debugger in the trace of its stream.
use Rattle.std.specs.Prelude.{◌≡◌, ℕ, List, [], ◌∷◌, ◌++◌, Some, length}
use Rattle.std.specs.List.{AllByRecursion}
use Rattle.press_cmd.specs.declared.variant.Kind.{Kind}
use Rattle.press_table.specs.Counts.{counted}
use Rattle.press_engine.specs.declared.view.View.{View}
use Rattle.press_engine.specs.Engine.{view_of}
use Rattle.press_engine.specs.Machine.{StepResult, power_on}
use Rattle.press_engine.specs.Trace.{last_machine}
use Rattle.press_stream.specs.Left.{LeftOf}
use Rattle.press_stream.specs.State.{IsOver}
use Rattle.press_stream.specs.Traced.{IsTraceOf}
use Rattle.press_debug.specs.Steps.{DebuggerState, Advances, at_start, kind_taken, with_kinds}

-- It stands behind these items of the trace of these bytes: the state is that of the last of them, after power on where there is none; the
-- last kinds are theirs; and the others are left.
pub record StandsBehind (bytes : List ℕ) (items : List StepResult) (now : DebuggerState) : Type 0 where
  pub others : List StepResult
  pub are : IsTraceOf bytes (items ++ others)
  pub left : LeftOf now.job others
  pub state : now.job.machine ≡ Some (last_machine power_on items)
  pub recent : now.recent ≡ with_kinds [] items

-- An item took a command of one kind, which was carried out or recorded; and each of these items did.
abbrev pub HasKind : StepResult → Type 0
HasKind item = (kind : Kind) × (kind_taken item.machine.last ≡ kind ∷ [])

abbrev pub HaveKinds : List StepResult → Type 0
HaveKinds = AllByRecursion HasKind

-- What is seen is the state of the last of these items, after power on where there is none, and so many steps are counted.
abbrev pub ShowsItem : View → List StepResult → Type 0
ShowsItem view items = (view ≡ view_of view.stack (last_machine power_on items)) × (view.step ≡ counted 0 (length items))

-- At the start it stands behind no item; where it stands behind some and takes others, it stands behind all of them; and where no
-- step is left, it stands behind the whole trace. Each item has one kind, so the last kinds are those of the last items, one for each.
pub record PlacesGoOn : Type 0 where
  pub begins : (bytes : List ℕ) → StandsBehind bytes [] (at_start bytes)
  pub goes_on : (bytes : List ℕ) (items taken : List StepResult) (old new : DebuggerState)
      → StandsBehind bytes items old → Advances old taken new → StandsBehind bytes (items ++ taken) new
  pub at_end : (bytes : List ℕ) (items : List StepResult) (now : DebuggerState)
      → StandsBehind bytes items now → IsOver now.job → IsTraceOf bytes items
  pub kinds : (bytes : List ℕ) (items : List StepResult) (now : DebuggerState) → StandsBehind bytes items now → HaveKinds items
