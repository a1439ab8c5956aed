-- What holds of a command that is taken: of what it begins, and of its items.
use Rattle.std.proofs.Common.{◌≡◌, ◌<◌, arith, ℕ, zero, suc, List, [], ◌∷◌, Bool, true, false, refl}
use Rattle.press_cmd.specs.Token.{Token}
use Rattle.press_cursor.specs.Cursor.{position}
use Rattle.press_table.specs.declared.effect.BodyEnd.{BodyEnd}
use Rattle.press_table.specs.declared.effect.EjectCause.{EjectCause}
use Rattle.press_table.specs.declared.state.State.{State}
use Rattle.press_table.specs.Calls.{kept_of}
use Rattle.press_table.specs.Outcome.{Effect}
use Rattle.press_table.specs.Table.{effect_on}
use Rattle.press_engine.specs.declared.activation.Activation.{Activation}
use Rattle.press_engine.specs.declared.activation.ActivationEnd.TheVariants as ends_by
use Rattle.press_engine.specs.declared.machine.Machine.{Machine}
use Rattle.press_engine.specs.Begun.{Begun, end_of, begun_only, source_in, begins}
use Rattle.press_engine.specs.Machine.{StepResult, silent, with_state, taken, deeper, enter_body, enter_overlay, overlay_levels, source_at}
use Rattle.press_engine.specs.Stack.{items_at, items_in, room_where}
use Rattle.press_engine.specs.Trace.{with_end, trace_each, begun_items, inside_of, trace_in_overlay, trace_at}
use Rattle.press_engine.proofs.BegunLemmas.{IsAlone, StartsBody, begun-cases}

-- a command that a machine takes, in an overlay or outside, where so many macros may start
pub record Taking : Type 0 where
  pub in_overlay : Bool
  pub levels : ℕ
  pub command : Token
  pub machine : Machine

abbrev pub taking : Bool → (levels : ℕ) → Token → Machine → Taking
taking in_overlay levels command machine = record { in_overlay = in_overlay; levels = levels; command = command; machine = machine }

abbrev pub taking_in : Activation → Token → Machine → Taking
taking_in activation = taking activation.in_overlay activation.macro_levels

abbrev pub now : Taking → Machine
now at = taken (source_in at.in_overlay at.levels) at.command at.machine

abbrev pub effect_at : Taking → Effect
effect_at at = effect_on (source_in at.in_overlay at.levels) at.command at.machine.state

abbrev pub begins_at : Taking → Begun
begins_at at = begins at.in_overlay at.levels at.command at.machine

abbrev pub items_from : Taking → List StepResult
items_from at = items_at at.in_overlay at.levels at.command at.machine

-- a body that a command starts: one more runs in the same step, and in it there is less room
pub record StartsIn (at : Taking) (item : StepResult) (activation : Activation) : Type 0 where
  pub effect : StartsBody (effect_at at)
  pub last : item.machine.last ≡ (now at).last
  pub step : item.machine.step ≡ (now at).step
  pub depth : item.machine.depth ≡ deeper at.machine.depth
  pub outside : activation.depth ≡ at.machine.depth
  pub room : room_where activation.in_overlay activation.macro_levels < room_where at.in_overlay at.levels

abbrev of_macro : Bool → (more : ℕ) → List Token → BodyEnd → Machine → Activation
of_macro in_overlay more commands end machine =
    record { body = commands; in_overlay = in_overlay; macro_levels = more; depth = machine.depth; end = ends_by.Macro end }

abbrev of_overlay : List Token → EjectCause → Machine → Activation
of_overlay commands cause machine = record {
  body = commands;
  in_overlay = true;
  macro_levels = overlay_levels;
  depth = machine.depth;
  end = ends_by.Close cause (kept_of machine.state) (position machine.state.cursor);
}

-- It holds where it holds of an item alone, and of a body of whose commands it holds.
module _ (P : Taking → Begun → List StepResult → Type 0)
    (alone : (at : Taking) (item : StepResult) → IsAlone (now at) (effect_at at) item → P at (begun_only item) (item ∷ []))
    (body : (at : Taking) (item : StepResult) (activation : Activation) → StartsIn at item activation
    → ((one : Token) (machine : Machine) → P (taking_in activation one machine) (begins_at (taking_in activation one machine)) (items_in activation one machine))
    → P at (record { item = item; started = activation ∷ [] })
    (with_end (end_of activation) item (trace_each (items_in activation) activation.body item.machine))) where
  in_overlay-all : (levels : ℕ) (command : Token) (machine : Machine)
      → P (taking true levels command machine) (begins true levels command machine) (trace_in_overlay levels command machine)
  unfolding trace_in_overlay
  in_overlay-all zero command machine =
      let at = taking true 0 command machine in
      begun-cases (now at) (λ begin. P at begin (begin.item ∷ [])) true 0 (effect_at at) (alone at) tt tt
  in_overlay-all (suc more) command machine =
      let at = taking true (suc more) command machine in
      begun-cases (now at) (λ begin. P at begin (begun_items (λ body. trace_in_overlay more) begin)) true (suc more) (effect_at at) (alone at)
      (λ starts commands end state.
      body at (silent (enter_body end state (now at))) (of_macro true more commands end (now at))
      (record { effect = starts; last = refl; step = refl; depth = refl; outside = refl; room = omega arith }) (in_overlay-all more)) tt

  overlay-all : (levels : ℕ) (command : Token) (machine : Machine) → StartsBody (effect_at (taking false levels command machine))
      → (commands : List Token) (cause : EjectCause) (state : State)
      → let before = with_state state (taken (source_at levels) command machine) in
      P (taking false levels command machine) (record { item = silent (enter_overlay before); started = of_overlay commands cause before ∷ [] })
      (with_end (end_of (of_overlay commands cause before)) (silent (enter_overlay before))
      (trace_each (trace_in_overlay overlay_levels) commands (enter_overlay before)))
  overlay-all levels command machine starts commands cause state =
      let before = with_state state (taken (source_at levels) command machine) in
      body (taking false levels command machine) (silent (enter_overlay before)) (of_overlay commands cause before)
      (record { effect = starts; last = refl; step = refl; depth = refl; outside = refl; room = omega arith }) (in_overlay-all overlay_levels)

  outside-all : (levels : ℕ) (command : Token) (machine : Machine)
      → P (taking false levels command machine) (begins false levels command machine) (trace_at levels command machine)
  unfolding trace_at
  outside-all zero command machine =
      let at = taking false 0 command machine in
      begun-cases (now at) (λ begin. P at begin (begun_items (λ body. trace_in_overlay overlay_levels) begin)) false 0 (effect_at at) (alone at) tt
      (overlay-all 0 command machine)
  outside-all (suc more) command machine =
      let at = taking false (suc more) command machine in
      begun-cases (now at) (λ begin. P at begin (begun_items (inside_of (trace_at more)) begin)) false (suc more) (effect_at at) (alone at)
      (λ starts commands end state.
      body at (silent (enter_body end state (now at))) (of_macro false more commands end (now at))
      (record { effect = starts; last = refl; step = refl; depth = refl; outside = refl; room = omega arith }) (outside-all more))
      (overlay-all (suc more) command machine)

  any : (in_overlay : Bool) (levels : ℕ) (command : Token) (machine : Machine)
      → P (taking in_overlay levels command machine) (begins in_overlay levels command machine) (items_at in_overlay levels command machine)
  any true = in_overlay-all
  any false = outside-all

  pub command-all : (at : Taking) → P at (begins_at at) (items_from at)
  command-all at = any at.in_overlay at.levels at.command at.machine
