-- What a command begins, by cases: its item alone, the body of a macro, or that of the overlay.
use Rattle.std.proofs.Common.{◌≡◌, ◌≢◌, ℕ, zero, suc, List, [], Option, Some, None, Bool, true, false, inl, refl, arith}
use Rattle.std.specs.Prelude.{⊤}
use Rattle.press_cmd.specs.Token.{Token}
use Rattle.press_sink.specs.Sending.{Output}
use Rattle.press_table.specs.declared.effect.BodyEnd.{BodyEnd}
use Rattle.press_table.specs.declared.effect.EjectCause.{EjectCause}
use Rattle.press_table.specs.declared.state.State.{State}
use Rattle.press_table.specs.Calls.{overlay_body}
use Rattle.press_table.specs.Closing.{finish_effect}
use Rattle.press_table.specs.Memory.{TakesMemory}
use Rattle.press_table.specs.Outcome.{Effect, Changes, MayAllocate, GivesReply, Stays, Closes, Starts}
use Rattle.press_engine.specs.declared.activation.ActivationEnd.{ActivationEnd}
use Rattle.press_engine.specs.declared.machine.Machine.{Machine}
use Rattle.press_engine.specs.Begun.{Begun, begun_only, begun_body, begun_close, begun, end_by}
use Rattle.press_engine.specs.TraceLaws.{IsOneStep}
use Rattle.press_engine.specs.Machine.{StepResult, with_state}

-- of an item alone: as many bodies run as before, in the same step, and what goes out takes memory
pub record IsAlone (machine : Machine) (effect : Effect) (item : StepResult) : Type 0 where
  pub last : item.machine.last ≡ machine.last
  pub step : item.machine.step ≡ machine.step
  pub depth : item.machine.depth ≡ machine.depth
  pub memory : item.outputs ≢ [] → TakesMemory effect

-- of an effect that starts a body
pub record StartsBody (effect : Effect) : Type 0 where
  pub memory : TakesMemory effect
  pub more : IsOneStep effect → ⊥

-- what is to be shown of a macro's body that starts, where one more may; and of the overlay's, outside an overlay
abbrev MacroCase : Effect → Machine → (Begun → Type 0) → Bool → (more : ℕ) → Type 0
MacroCase effect machine P in_overlay more =
    StartsBody effect → (commands : List Token) (end : BodyEnd) (state : State) → P (begun_body in_overlay (suc more) commands end state machine)

abbrev OverlayCase : Effect → Machine → (Begun → Type 0) → Type 0
OverlayCase effect machine P =
    StartsBody effect → (commands : List Token) (cause : EjectCause) (state : State) → P (begun_close (Some commands) cause (with_state state machine))

abbrev OneMore : (levels : ℕ) → (ℕ → Type 0) → Type 0
OneMore zero Q = ⊤
OneMore (suc more) Q = Q more

abbrev Outside : (in_overlay : Bool) → Type 0 → Type 0
Outside true Q = ⊤
Outside false Q = Q

alone-of : (machine : Machine) (effect : Effect) (state : State) (outputs : List Output) → (outputs ≢ [] → TakesMemory effect)
    → IsAlone machine effect (record { machine = with_state state machine; outputs = outputs })
alone-of machine effect state outputs memory = record { last = refl; step = refl; depth = refl; memory = memory }

-- By cases, and not by a search: with a wrong end in the body, a search stops here at its limit, before the law of the fold refuses it.
module _ (machine : Machine) (P : Begun → Type 0) where
  body-cases : (in_overlay : Bool) (levels : ℕ) (commands : List Token) (end : BodyEnd) (state : State)
      → ((item : StepResult) → IsAlone machine (Starts commands end state) item → P (begun_only item))
      → OneMore levels (MacroCase (Starts commands end state) machine P in_overlay) → P (begun_body in_overlay levels commands end state machine)
  body-cases in_overlay zero commands end state alone body = alone _ (alone-of machine (Starts commands end state) state [] (λ some. tt))
  body-cases in_overlay (suc more) commands end state alone body = body (record { memory = tt; more = λ one. one }) commands end state

  close-cases : (found : Option (List Token)) (cause : EjectCause) (state : State) → overlay_body state ≡ found
      → ((item : StepResult) → IsAlone machine (Closes cause state) item → P (begun_only item))
      → OverlayCase (Closes cause state) machine P → P (begun_close found cause (with_state state machine))
  close-cases None cause state is alone overlay =
      let outcome = finish_effect (Closes cause state) in
      alone _ (alone-of machine (Closes cause state) outcome.state outcome.outputs (λ some. tt))
  close-cases (Some commands) cause state is alone overlay = overlay (record { memory = tt; more = λ none. cc }) commands cause state

  pub begun-cases : (in_overlay : Bool) (levels : ℕ) (effect : Effect)
      → ((item : StepResult) → IsAlone machine effect item → P (begun_only item))
      → OneMore levels (MacroCase effect machine P in_overlay) → Outside in_overlay (OverlayCase effect machine P) → P (begun in_overlay levels machine effect)
  begun-cases true levels (Changes state) alone body overlay = alone _ (alone-of machine (Changes state) state [] (λ some. absurd (some refl)))
  begun-cases true levels (MayAllocate state) alone body overlay = alone _ (alone-of machine (MayAllocate state) state [] (λ some. tt))
  begun-cases true levels (GivesReply reply state) alone body overlay = alone _ (alone-of machine (GivesReply reply state) state [] (λ some. tt))
  begun-cases true levels (Stays cause state) alone body overlay = alone _ (alone-of machine (Stays cause state) state [] (λ some. absurd (some refl)))
  begun-cases true levels (Closes cause state) alone body overlay = alone _ (alone-of machine (Closes cause state) state [] (λ some. tt))
  begun-cases true levels (Starts commands end state) alone body overlay = body-cases true levels commands end state alone body
  begun-cases false levels (Changes state) alone body overlay = alone _ (alone-of machine (Changes state) state [] (λ some. absurd (some refl)))
  begun-cases false levels (MayAllocate state) alone body overlay = alone _ (alone-of machine (MayAllocate state) state [] (λ some. tt))
  begun-cases false levels (GivesReply reply state) alone body overlay = alone _ (alone-of machine (GivesReply reply state) state _ (λ some. tt))
  begun-cases false levels (Stays cause state) alone body overlay =
      let outcome = finish_effect (Stays cause state) in
      alone _ (alone-of machine (Stays cause state) outcome.state outcome.outputs (λ some. inl some))
  begun-cases false levels (Closes cause state) alone body overlay = close-cases (overlay_body state) cause state refl alone overlay
  begun-cases false levels (Starts commands end state) alone body overlay = body-cases false levels commands end state alone body

-- What the end of a body leaves as it is, and how many bodies run after it.
pub end-last : (end : ActivationEnd) (depth : ℕ) (machine : Machine) → (end_by end depth machine).machine.last ≡ machine.last
end-last end depth machine = grind arith

pub end-step : (end : ActivationEnd) (depth : ℕ) (machine : Machine) → (end_by end depth machine).machine.step ≡ machine.step
end-step end depth machine = grind arith

pub end-depth : (end : ActivationEnd) (depth : ℕ) (machine : Machine) → (end_by end depth machine).machine.depth ≡ depth
end-depth end depth machine = grind arith
