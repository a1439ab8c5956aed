-- How a debugger goes on to a stop.
use Rattle.std.proofs.Common.{◌≡◌, ◌+◌, ℕ, Bool, List, [], ◌∷◌, Option, Some, None, refl, sym, ap, subst, arith}
use Rattle.std.proofs.lemmas.List.Elements.{All-nil, All-cons}
use Rattle.press_engine.specs.declared.machine.Machine.{Machine}
use Rattle.press_engine.specs.declared.view.View.{View}
use Rattle.press_engine.specs.Machine.{StepResult}
use Rattle.press_stream.specs.State.{JobState, IsOver}
use Rattle.press_debug.specs.declared.breakpoints.Break.{Break}
use Rattle.press_debug.specs.declared.debugger.Stop.{Stop}
use Rattle.press_debug.specs.declared.debugger.Stop.TheVariants as stops
use Rattle.press_debug.specs.Steps.{DebuggerState, Advances, Remains}
use Rattle.press_debug.specs.Stops.{StateMeets, StopsAt, ContinuesTo}
use Rattle.press_debug.proofs.Taking.{Advances-then, RanOut-then}

module _ (watches : View → Bool → Type 0) (table : List (Option Break)) where
  StopsAt-next : (item : StepResult) (items : List StepResult) (max : ℕ) (stop : Stop) (new : JobState)
      → StateMeets watches table None item.machine → StopsAt watches table items max stop new
      → StopsAt watches table (item ∷ items) (max + 1) stop new
  StopsAt-next item items max (stops.AtBreak number) new passes stopped =
      let (passed, here, is, few, all, meets) = stopped in
      (item ∷ passed, here, ap (λ (more : List StepResult). item ∷ more) is, omega (arith, few), All-cons (λ one. StateMeets watches table None one.machine) item passed passes all, meets)
  StopsAt-next item items max stops.Ended new passes stopped =
      (omega (arith, stopped.0), All-cons (λ one. StateMeets watches table None one.machine) item items passes stopped.1, stopped.2)
  StopsAt-next item items max stops.LimitReached new passes stopped =
      (omega (arith, stopped.0), All-cons (λ one. StateMeets watches table None one.machine) item items passes stopped.1, stopped.2)
  StopsAt-next item items max stops.Stepped new passes stopped = stopped
  StopsAt-next item items max stops.Failed new passes stopped = stopped

  ContinuesTo-some : (old mid new : DebuggerState) (item : StepResult) (max : ℕ) (stop : Stop) → Advances old (item ∷ []) mid → StateMeets watches table None item.machine
      → (items : List StepResult) × Advances mid items new × StopsAt watches table items max stop new.job
      → (items : List StepResult) × Advances old items new × StopsAt watches table items (max + 1) stop new.job
  ContinuesTo-some old mid new item max stop one passes (items, more, stopped) =
      (item ∷ items, Advances-then old mid new (item ∷ []) items one more, StopsAt-next item items max stop new.job passes stopped)

  -- one state that meets nothing was taken, and then it went on
  ContinuesTo-next : (old mid new : DebuggerState) (item : StepResult) (max : ℕ) (stop : Stop) → Advances old (item ∷ []) mid
      → StateMeets watches table None item.machine → ContinuesTo watches table mid max stop new
      → ContinuesTo watches table old (max + 1) stop new
  ContinuesTo-next old mid new item max (stops.AtBreak number) one passes goes = ContinuesTo-some old mid new item max (stops.AtBreak number) one passes goes
  ContinuesTo-next old mid new item max stops.Ended one passes goes = ContinuesTo-some old mid new item max stops.Ended one passes goes
  ContinuesTo-next old mid new item max stops.LimitReached one passes goes = ContinuesTo-some old mid new item max stops.LimitReached one passes goes
  ContinuesTo-next old mid new item max stops.Stepped one passes goes = ContinuesTo-some old mid new item max stops.Stepped one passes goes
  ContinuesTo-next old mid new item max stops.Failed one passes goes = RanOut-then old mid new (item ∷ []) one goes

  -- the one that is taken meets something
  ContinuesTo-met : (old new : DebuggerState) (item : StepResult) (max number : ℕ) → Advances old (item ∷ []) new
      → StateMeets watches table (Some number) item.machine → ContinuesTo watches table old (max + 1) (stops.AtBreak number) new
  ContinuesTo-met old new item max number one meets =
      (item ∷ [], one, ([], item, refl, omega arith, All-nil (λ one. StateMeets watches table None one.machine), meets))

  -- no step was left
  pub ContinuesTo-ended : (old new : DebuggerState) (max : ℕ) → IsOver new.job → Advances old [] new → ContinuesTo watches table old max stops.Ended new
  ContinuesTo-ended old new max over none = ([], none, (omega arith, All-nil (λ one. StateMeets watches table None one.machine), over))

  -- the limit was reached
  pub ContinuesTo-limit : (old : DebuggerState) (max : ℕ) → 0 ≡ max → Remains old.job → Advances old [] old → ContinuesTo watches table old max stops.LimitReached old
  ContinuesTo-limit old max none some same = ([], same, (none, All-nil (λ one. StateMeets watches table None one.machine), some))

  ContinuesTo-max : (old new : DebuggerState) (max less : ℕ) (stop : Stop) → max ≡ less → ContinuesTo watches table old less stop new → ContinuesTo watches table old max stop new
  ContinuesTo-max old new max less stop is goes = subst (λ (n : ℕ). ContinuesTo watches table old n stop new) (sym is) goes

  -- the same where so many steps are still asked for
  pub ContinuesTo-then : (old mid new : DebuggerState) (item : StepResult) (max less : ℕ) (stop : Stop) → max ≡ less + 1
      → Advances old (item ∷ []) mid → StateMeets watches table None item.machine → ContinuesTo watches table mid less stop new
      → ContinuesTo watches table old max stop new
  ContinuesTo-then old mid new item max less stop is one passes goes = ContinuesTo-max old new max (less + 1) stop is (ContinuesTo-next old mid new item less stop one passes goes)

  pub ContinuesTo-stop : (old new : DebuggerState) (item : StepResult) (max less number : ℕ) → max ≡ less + 1
      → Advances old (item ∷ []) new → StateMeets watches table (Some number) item.machine
      → ContinuesTo watches table old max (stops.AtBreak number) new
  ContinuesTo-stop old new item max less number is one meets = ContinuesTo-max old new max (less + 1) (stops.AtBreak number) is (ContinuesTo-met old new item less number one meets)

-- what is met by one test and table, is met by equal ones
pub StateMeets-kept : {W : Type 0} (watches : W → View → Bool → Type 0) (one other : W) (table kept : List (Option Break))
    (number : Option ℕ) (machine : Machine)
    → one ≡ other → table ≡ kept → StateMeets (watches one) table number machine → StateMeets (watches other) kept number machine
StateMeets-kept watches one other table kept number machine same stays meets =
    subst (λ watch. StateMeets (watches watch) kept number machine) same (subst (λ these. StateMeets (watches one) these number machine) stays meets)
