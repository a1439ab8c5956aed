-- Steps of an engine one after another, until no body runs: a whole command.
use Rattle.std.proofs.Common.{◌≡◌, ◌≢◌, ◌∙◌, ◌<◌, arith, ℕ, List, [], ◌∷◌, ◌++◌, length, Option, Some, None, false, Result, Ok, Err, MatchResult, inr, refl, sym, ap, subst}
use Rattle.press_cmd.specs.Token.{Token}
use Rattle.press_cmd.specs.declared.variant.Kind.{Kind}
use Rattle.press_sink.specs.SinkLog.{SinkLog, HasFaultRoom, under}
use Rattle.press_sink.specs.Sending.{WentOut}
use Rattle.press_sink.proofs.SendingLemmas.{WentOut-none, WentOut-then}
use Rattle.press_engine.specs.declared.fault.EngineError.{EngineError}
use Rattle.press_engine.specs.declared.activation.Activation.{Activation}
use Rattle.press_engine.specs.declared.machine.Machine.{Machine}
use Rattle.press_engine.specs.declared.engine.Engine.{Engine}
use Rattle.press_engine.specs.Engine.{machine_of, bodies, ending_of, Runs, TakesItem, TakesNext, NeedsMemory}
use Rattle.press_engine.specs.Machine.{StepResult, macro_levels}
use Rattle.press_engine.specs.Begun.{begins}
use Rattle.press_engine.specs.Stack.{continuation, HasNext}
use Rattle.press_engine.specs.Stepping.{unwind}
use Rattle.press_engine.specs.Trace.{joined, trace_at, told_by}
use Rattle.press_engine.proofs.FoldLaws.{told-run}
use Rattle.press_engine.proofs.SendsLemmas.{WentOut-exit}
use Rattle.press_engine.proofs.StackLaws.{outer-continuation}
use Rattle.press_engine.proofs.StackLemmas.{begins-wants}
use Rattle.press_engine.proofs.CommandItems.{taking}
use Rattle.press_engine.proofs.ValueLemmas.{inner-some}

-- a run was carried out, after which an engine has this machine
pub record Leaves (run : StepResult) (tag : ℕ) (result : Result (Unit {0}) EngineError) (new : Option Machine) (before after : SinkLog) : Type 0 where
  pub left : MatchResult result (λ _. new ≡ Some run.machine) (λ _. new ≡ None)
  pub sends : WentOut tag run.outputs (ending_of result) before after

-- so were the items that an engine owes
abbrev pub LeavesAll : Option Machine → (Machine → List StepResult) → ℕ → Result (Unit {0}) EngineError → Option Machine → SinkLog → SinkLog → Type 0
LeavesAll None owing tag result new before after = ⊥
LeavesAll (Some machine) owing tag result new before after = Leaves (told_by (owing machine) machine) tag result new before after

module _ (owing : Machine → List StepResult) (tag : ℕ) where
  -- a step, and then the others
  next-item : (machine : Machine) (mid : Option Machine) (kind : Kind) (still : List Activation) (result : Result (Unit {0}) EngineError)
      (new : Option Machine) (before between after : SinkLog)
      → TakesItem (owing machine) (Ok kind) mid still (under tag before between)
      → LeavesAll mid (continuation still) tag result new between after
      → Leaves (told_by (owing machine) machine) tag result new before after
  next-item machine mid kind still result new before between after t rest =
      let P : Option Machine → Type 0 = λ at. LeavesAll at (continuation still) tag result new between after in
      let Q : List StepResult → Type 0 = λ items. Leaves (told_by items machine) tag result new before after in
      let others = continuation still t.item.machine in
      let there : Leaves (told_by others t.item.machine) tag result new between after = subst P t.left.1 rest in
      subst Q (ap (λ (items : List StepResult). t.item ∷ items) (sym t.left.2) ∙ sym t.due)
      (record { left = there.left; sends = WentOut-then tag t.item.outputs (joined others) (ending_of result) before between after t.sends there.sends })

  pub next-leaves : (old mid : Option Machine) (kind : Kind) (still : List Activation) (result : Result (Unit {0}) EngineError)
      (new : Option Machine) (before between after : SinkLog)
      → TakesNext old owing (Ok kind) mid still (under tag before between)
      → LeavesAll mid (continuation still) tag result new between after → LeavesAll old owing tag result new before after
  next-leaves old mid kind still result new before between after takes rest = grind (arith, next-item)

  -- a step at which it stopped
  stop-item : (machine : Machine) (error : EngineError) (new : Option Machine) (still : List Activation) (before after : SinkLog)
      → TakesItem (owing machine) (Err error) new still (under tag before after)
      → Leaves (told_by (owing machine) machine) tag (Err error) new before after
  stop-item machine error new still before after t =
      let Q : List StepResult → Type 0 = λ items. Leaves (told_by items machine) tag (Err error) new before after in
      subst Q (sym t.due) (record { left = t.left.0; sends = WentOut-exit tag t.item.outputs (joined t.others) (Err error) (Err error) error before after t.sends refl refl })

  pub stop-leaves : (old : Option Machine) (result : Result Kind EngineError) (exit : Result (Unit {0}) EngineError) (error : EngineError)
      (new : Option Machine) (still : List Activation) (before after : SinkLog)
      → old ≢ None → TakesNext old owing result new still (under tag before after) → result ≡ Err error → exit ≡ Err error
      → LeavesAll old owing tag exit new before after
  stop-leaves old result exit error new still before after alive takes is exits = grind (arith, stop-item)

-- no body runs any more
pub none-leaves : (old : Option Machine) (still : List Activation) (tag : ℕ) (told : SinkLog) → old ≢ None → still ≡ [] → LeavesAll old (continuation still) tag (Ok tt) old told told
none-leaves None still tag told alive none = absurd (alive refl)
none-leaves (Some machine) still tag told alive none =
    let P : List Activation → Type 0 = λ activations. Leaves (told_by (continuation activations machine) machine) tag (Ok tt) (Some machine) told told in
    subst P (sym none) (record { left = refl; sends = WentOut-none tag told })

-- the items of a whole command
pub runs-of : (old : Option Machine) (command : Token) (tag : ℕ) (result : Result (Unit {0}) EngineError) (new : Option Machine)
    (before after : SinkLog)
    → LeavesAll old (trace_at macro_levels command) tag result new before after → Runs old command result new (under tag before after)
runs-of old command tag result new before after leaves = grind (arith, told-run)

-- the first step stopped
pub runs-stopped : (old : Option Machine) (command : Token) (tag : ℕ) (result : Result Kind EngineError)
    (exit : Result (Unit {0}) EngineError) (error : EngineError) (new : Option Machine) (still : List Activation) (before after : SinkLog)
    → TakesNext old (trace_at macro_levels command) result new still (under tag before after) → result ≡ Err error → exit ≡ Err error
    → Runs old command exit new (under tag before after)
runs-stopped old command tag result exit error new still before after takes is exits = grind (arith, runs-of, stop-leaves)

-- how many steps are owed
abbrev pub steps_owed : Option Machine → (Machine → List StepResult) → ℕ
steps_owed None owing = 0
steps_owed (Some machine) owing = length (owing machine)

-- after a step that was taken
module _ (owing : Machine → List StepResult) (tag : ℕ) (mid : Option Machine) (kind : Kind) (still : List Activation) (before after : SinkLog) where
  pub alive-then : (old : Option Machine) → old ≢ None → TakesNext old owing (Ok kind) mid still (under tag before after) → mid ≢ None
  alive-then None alive takes none = alive refl
  alive-then (Some machine) alive takes none = let no : Some takes.item.machine ≡ None = sym takes.left.1 ∙ none in cc

  pub counts-then : (old : Option Machine) → old ≢ None → TakesNext old owing (Ok kind) mid still (under tag before after) → HasFaultRoom before → HasFaultRoom after
  counts-then old alive takes can = grind arith

  pub fewer-steps : (old : Option Machine) → old ≢ None → TakesNext old owing (Ok kind) mid still (under tag before after) → steps_owed mid (continuation still) < steps_owed old owing
  fewer-steps old alive takes = grind arith

abbrev other_items : List StepResult → List StepResult
other_items [] = []
other_items (item ∷ items) = items

-- where a body was started, the command takes memory
pub wants-more : (old : Option Machine) (command : Token) (tag : ℕ) (mid : Option Machine) (kind : Kind) (still : List Activation)
    (before after : SinkLog)
    → old ≢ None → TakesNext old (trace_at macro_levels command) (Ok kind) mid still (under tag before after) → HasNext still
    → NeedsMemory old command
wants-more None command tag mid kind still before after alive takes next = absurd (alive refl)
wants-more (Some machine) command tag mid kind still before after alive takes next =
    let begin = begins false macro_levels command machine in
    let rest = sym takes.left.2 ∙ ap other_items (sym takes.due ∙ outer-continuation command machine) in
    let none_owed : List Activation → Type 0 = λ started. continuation still takes.item.machine ≡ continuation (unwind (started ++ []) begin.item).activations (unwind (started ++ []) begin.item).item.machine in
    begins-wants (taking false macro_levels command machine)
    (inr (λ none. inner-some still takes.item.machine next (subst none_owed none rest)))

pub failed-none : (engine : Engine) → machine_of engine ≡ None → bodies engine ≡ []
failed-none engine is = grind arith

-- an engine whose step stopped has failed
pub stopped-none : (old : Option Machine) (owing : Machine → List StepResult) (tag : ℕ) (result : Result Kind EngineError)
    (error : EngineError) (new : Option Machine) (still : List Activation) (before after : SinkLog)
    → TakesNext old owing result new still (under tag before after) → result ≡ Err error → new ≡ None
stopped-none old owing tag result error new still before after takes is = grind arith
