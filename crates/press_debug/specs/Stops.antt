-- Where a debugger stops.
use Rattle.std.specs.Prelude.{◌≡◌, ◌≤◌, ◌⊎◌, ℕ, Bool, true, false, List, [], ◌∷◌, ◌++◌, length, Option, Some, None}
use Rattle.std.specs.List.{All}
use Rattle.press_engine.specs.declared.machine.Machine.{Machine}
use Rattle.press_engine.specs.declared.view.View.{View}
use Rattle.press_engine.specs.Engine.{view_of}
use Rattle.press_engine.specs.Machine.{StepResult}
use Rattle.press_stream.specs.State.{JobState, IsOver}
use Rattle.press_debug.specs.declared.breakpoints.Break.{Break}
use Rattle.press_debug.specs.declared.debugger.Stop.{Stop}
use Rattle.press_debug.specs.declared.debugger.Stop.TheVariants as stops
use Rattle.press_debug.specs.Breaks.{met, most_breaks}
use Rattle.press_debug.specs.Steps.{DebuggerState, Advances, RanOut, TakesOne, TakesOver, Remains}
use Rattle.press_debug.specs.declared.stepper.Taken.TheVariants as answers

-- What a view meets, by the least number: a breakpoint; or the watch, whose number comes after all of them; or nothing.
abbrev pub MetBy : (View → Bool → Type 0) → List (Option Break) → Option ℕ → View → Type 0
MetBy watches table (Some number) view =
    (met table view ≡ Some number) ⊎ ((number ≡ most_breaks) × (met table view ≡ None) × watches view true)
MetBy watches table None view = (met table view ≡ None) × watches view false

-- the same of a machine: of what can be seen of it
pub record StateMeets (watches : View → Bool → Type 0) (table : List (Option Break)) (number : Option ℕ) (machine : Machine) : Type 0 where
  pub view : View
  pub shows : view ≡ view_of view.stack machine
  pub stack : view.stack.now ≡ machine.state.cursor.stack
  pub meets : MetBy watches table number view

-- nothing is met by these items
abbrev pub PassesAll : (View → Bool → Type 0) → List (Option Break) → List StepResult → Type 0
PassesAll watches table items = All (λ item. StateMeets watches table None item.machine) items

-- Why it stopped behind these items, of which there may be so many: the last of them is the first that meets something; or none
-- does, and no step is left, or so many were taken and steps are left.
abbrev pub StopsAt : (View → Bool → Type 0) → List (Option Break) → List StepResult → (max : ℕ) → Stop → JobState → Type 0
StopsAt watches table items max (stops.AtBreak number) new =
    (passed : List StepResult) × (here : StepResult) × (items ≡ passed ++ here ∷ []) × (length items ≤ max)
    × PassesAll watches table passed × StateMeets watches table (Some number) here.machine
StopsAt watches table items max stops.Ended new = (length items ≤ max) × PassesAll watches table items × IsOver new
StopsAt watches table items max stops.LimitReached new = (length items ≡ max) × PassesAll watches table items × Remains new
StopsAt watches table items max stops.Stepped new = ⊥
StopsAt watches table items max stops.Failed new = ⊥

-- It took so many steps at most, and stopped for such a reason; or memory ran out, and it fails from then on.
abbrev pub ContinuesTo : (View → Bool → Type 0) → List (Option Break) → DebuggerState → (max : ℕ) → Stop → DebuggerState → Type 0
ContinuesTo watches table old max stops.Failed new = RanOut old new
ContinuesTo watches table old max stop new = (items : List StepResult) × Advances old items new × StopsAt watches table items max stop new.job

-- One step, and steps to the first state of no greater depth.
abbrev pub StopsInto : DebuggerState → Stop → DebuggerState → Type 0
StopsInto old stops.Stepped new = TakesOne old answers.Steps new
StopsInto old stops.Ended new = TakesOne old answers.Nothing new
StopsInto old stops.Failed new = TakesOne old answers.Fault new
StopsInto old (stops.AtBreak number) new = ⊥
StopsInto old stops.LimitReached new = ⊥

abbrev pub StopsOver : DebuggerState → Stop → DebuggerState → Type 0
StopsOver old stops.Stepped new = TakesOver old answers.Steps new
StopsOver old stops.Ended new = TakesOver old answers.Nothing new
StopsOver old stops.Failed new = TakesOver old answers.Fault new
StopsOver old (stops.AtBreak number) new = ⊥
StopsOver old stops.LimitReached new = ⊥
