-- Commands that do no more than change the machine.
use Rattle.std.proofs.Common.{◌≡◌, ◌∙◌, ℕ, [], ◌∷◌, Bool, false, refl, ap, arith}
use Rattle.press_cmd.specs.Token.{Token}
use Rattle.press_cmd.specs.Kinds.{kind_of}
use Rattle.press_table.specs.Changing as table
use Rattle.press_table.specs.Counts.{counted}
use Rattle.press_table.specs.Outcome.{Effect}
use Rattle.press_table.specs.Refusals.{refusal_of}
use Rattle.press_table.specs.Table.{effect_on}
use Rattle.press_table.specs.declared.effect.Source.{Source}
use Rattle.press_table.specs.declared.state.State.{State}
use Rattle.press_engine.specs.declared.machine.Machine.{Machine}
use Rattle.press_engine.specs.Begun.{Begun, begun, begun_only, begins, source_in}
use Rattle.press_engine.specs.Changing.{OnlyChanges}
use Rattle.press_engine.specs.Fold.{run_all}
use Rattle.press_engine.specs.Machine.{silent, with_state, taken, carried, macro_levels}
use Rattle.press_engine.specs.Trace.{begun_items, inside_of, trace_at}
use Rattle.press_engine.proofs.FoldLaws.{told_all-run_all}
use Rattle.press_engine.proofs.PassingLaws.{run-cons, run-none}

-- what an effect that leaves a state begins
begun-left : (in_overlay : Bool) (levels : ℕ) (machine : Machine) (effect : Effect) (state : State) → table.Leaves effect state
    → begun in_overlay levels machine effect ≡ begun_only (silent (with_state state machine))
begun-left in_overlay levels machine effect state is = grind arith

-- a machine with this state, one step further, by a command that was carried out
abbrev pub stepped : Source → Token → State → Machine → Machine
stepped source command state old =
    record old { state = state; step = counted old.step 1; last = carried (kind_of command) (refusal_of source command old.state) }

pub only_changes : (command : Token) (old : Machine) (state : State) → table.OnlyChanges command old.state state → (in_overlay : Bool) (levels : ℕ)
    → begins in_overlay levels command old ≡ begun_only (silent (stepped (source_in in_overlay levels) command state old))
only_changes command old state is in_overlay levels =
    let source = source_in in_overlay levels in
    begun-left in_overlay levels (taken source command old) (effect_on source command old.state) state (is.changes source)
    ∙ rw is.carried_out refl

-- it is one item of the trace, and nothing goes out in it
pub change_traced : (command : Token) (old new : Machine) → OnlyChanges command old new → trace_at macro_levels command old ≡ silent new ∷ []
unfolding trace_at
change_traced command old new is = ap (λ (begin : Begun). begun_items (inside_of (trace_at 1)) begin) (is false macro_levels)

pub change_runs : (command : Token) (old new : Machine) → OnlyChanges command old new → run_all (command ∷ []) old ≡ silent new
change_runs command old new is = grind (arith, told_all-run_all (command ∷ []) old, run-cons command [] old new (change_traced command old new is), run-none new)
