-- How steps of the code are put together.
use Rattle.std.proofs.Common.{◌≡◌, ◌∙◌, ℕ, zero, suc, List, ◌∷◌, Bool, true, false, Result, IfOk, Vec, refl, sym, ap, subst, arith}
use Rattle.std.specs.declared.alloc.Global.{Global}
use Rattle.press_cmd.specs.Token.{Token}
use Rattle.press_table.specs.declared.effect.Effect.{Effect}
use Rattle.press_table.specs.declared.effect.Sent.{Sent}
use Rattle.press_table.specs.declared.state.State.{State}
use Rattle.press_table.specs.Table.{effect_on}
use Rattle.press_engine.specs.declared.activation.Activation.{Activation}
use Rattle.press_engine.specs.declared.machine.Machine.{Machine}
use Rattle.press_table.specs.Effects.{effect_of, is_done}
use Rattle.press_engine.specs.Machine.{StepResult, silent, then_run, with_state, taken}
use Rattle.press_engine.specs.Begun.{end_of, begun_only, begun, source_in, begins}
use Rattle.press_table.specs.Outcome as rows
use Rattle.press_engine.specs.Stepping.{used_up, is_top_used_up, Stepped, ended_by, unwind, step_inner, stepped_of}

pub ended-not : (body : List Token) (rest : List Activation) (activation : Activation) (run : StepResult) → used_up body ≡ false
    → ended_by body rest activation (unwind rest) run ≡ record { item = run; activations = activation ∷ rest }
ended-not body rest activation run is = grind arith

-- where the innermost body is used up, its end comes first, and then the ends round it
pub unwind-next : (activations rest : List Activation) (activation : Activation) (run : StepResult) → activations ≡ activation ∷ rest
    → used_up activation.body ≡ true → unwind rest (then_run run.outputs (end_of activation run.machine)) ≡ unwind activations run
unwind-next activations rest activation run is used = sym (ap (λ (all : List Activation). unwind all run) is ∙ grind arith)

-- and where it is not, no body ends
pub unwind-none : (activations : List Activation) (run : StepResult) → is_top_used_up activations ≡ false → record { item = run; activations = activations } ≡ unwind activations run
unwind-none activations run is = grind (arith, ended-not)

pub first-used : (activations next : List Activation) (activation : Activation) → is_top_used_up activations ≡ true → activations ≡ activation ∷ next → used_up activation.body ≡ true
first-used activations next activation is all = ap is_top_used_up (sym all) ∙ is

-- what an effect begins is asked of its own state alone
begun-state : (in_overlay : Bool) (macro_levels : ℕ) (state : State) (machine : Machine) (effect : rows.Effect)
    → begun in_overlay macro_levels (with_state state machine) effect ≡ begun in_overlay macro_levels machine effect
begun-state true levels state machine (rows.Changes inside) = refl
begun-state true levels state machine (rows.MayAllocate inside) = refl
begun-state true levels state machine (rows.GivesReply reply inside) = refl
begun-state true levels state machine (rows.Stays cause inside) = refl
begun-state true levels state machine (rows.Closes cause inside) = refl
begun-state true zero state machine (rows.Starts commands end inside) = refl
begun-state true (suc more) state machine (rows.Starts commands end inside) = refl
begun-state false levels state machine (rows.Changes inside) = refl
begun-state false levels state machine (rows.MayAllocate inside) = refl
begun-state false levels state machine (rows.GivesReply reply inside) = refl
begun-state false levels state machine (rows.Stays cause inside) = refl
begun-state false levels state machine (rows.Closes cause inside) = refl
begun-state false zero state machine (rows.Starts commands end inside) = refl
begun-state false (suc more) state machine (rows.Starts commands end inside) = refl

pub begins-from : (in_overlay : Bool) (macro_levels : ℕ) (command : Token) (old now : Machine) (effect : Effect)
    → now ≡ with_state now.state (taken (source_in in_overlay macro_levels) command old)
    → effect_of now.state effect ≡ effect_on (source_in in_overlay macro_levels) command old.state
    → begun in_overlay macro_levels now (effect_of now.state effect) ≡ begins in_overlay macro_levels command old
begins-from in_overlay macro_levels command old now effect is_taken gives =
    grind (arith, is_taken, begun-state in_overlay macro_levels now.state (taken (source_in in_overlay macro_levels) command old) (effect_of now.state effect), gives)

-- an effect with which all is done begins nothing
pub done-begins : (in_overlay : Bool) (more : ℕ) (machine : Machine) (effect : Effect) → is_done effect ≡ true →
    begun_only (silent machine) ≡ begun in_overlay more machine (effect_of machine.state effect)
done-begins in_overlay more machine effect e = grind arith

-- an answer that gives a step gives an equal one
module _ {E : Type 0} (result : Result (Vec Sent Global) E) (new : Machine) (still : List Activation) (one : Stepped) where
  pub steps-by : (other : Stepped) → one ≡ other → IfOk result (λ out. stepped_of new out.items still ≡ one) → IfOk result (λ out. stepped_of new out.items still ≡ other)
  steps-by other is steps = let P : Stepped → Type 0 = λ this. IfOk result (λ out. stepped_of new out.items still ≡ this) in subst P is steps

pub steps-inner : {E : Type 0} (result : Result (Vec Sent Global) E) (new old : Machine) (still activations : List Activation)
    (one : Stepped)
    → ((activation : Activation) (command : Token) (rest : List Token) (outer : List Activation)
    → activations ≡ record activation { body = command ∷ rest } ∷ outer → one ≡ step_inner activation command rest outer old)
    → IfOk result (λ out. stepped_of new out.items still ≡ one)
    → IfOk result (λ out.
    (activation : Activation) (command : Token) (rest : List Token) (outer : List Activation)
    → activations ≡ record activation { body = command ∷ rest } ∷ outer
    → stepped_of new out.items still ≡ step_inner activation command rest outer old)
steps-inner result new old still activations one is steps = grind arith
