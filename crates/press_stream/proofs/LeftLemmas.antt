-- What is left of a job, from step to step.
use Rattle.std.proofs.Common.{◌≡◌, ◌≢◌, ◌∙◌, ◌↔◌, inl, inr, ℕ, List, [], ◌∷◌, ◌++◌, Bool, true, false, IsTrue, MatchBool, refl, sym, ap, subst, append_assoc, arith}
use Rattle.std.proofs.lemmas.Bool.{false≢true}
use Rattle.press_cmd.specs.Token.{Token}
use Rattle.press_cmd.specs.Split.{ClosedFrom, Closed}
use Rattle.press_cmd.proofs.Splits.{closed_once}
use Rattle.press_cmd.specs.declared.variant.Kind.{Kind}
use Rattle.press_engine.specs.declared.activation.Activation.{Activation}
use Rattle.press_engine.specs.declared.machine.Machine.{Machine}
use Rattle.press_engine.specs.Machine.{StepResult, macro_levels, power_on}
use Rattle.press_engine.specs.Stack.{continuation, HasNext, IsReady}
use Rattle.press_engine.specs.Trace.{last_machine, trace, trace_each, trace_at}
use Rattle.press_engine.proofs.StackLaws.{inner-continuation, outer-continuation}
use Rattle.press_stream.specs.declared.phase.Phase.{Phase}
use Rattle.press_stream.specs.declared.phase.Phase.TheVariants as phases
use Rattle.press_stream.specs.State.{JobState, IsOver, opened, with_piece, input_ended, is_exited}
use Rattle.press_stream.specs.Meaning.{with_exit, left, Owes}
use Rattle.press_stream.specs.Steps.{Does}
use Rattle.press_stream.specs.Left.{LeftWith, StepsOn, LeftGoesOn}
use Rattle.press_stream.proofs.Items.{left-none, left-then}
use Rattle.press_stream.proofs.Going.{Owes-some, same_some, taken-to_end, taken-ended}

-- the commands that a job owes are one list
pub Owes-one : (job : JobState) (bytes : List ℕ) (commands others : List Token) → Owes job bytes commands → Owes job bytes others → commands ≡ others
Owes-one job bytes commands others owes other = at_exit job.exited owes.1 other.1
  where
    at_exit : (exited : Bool)
        → MatchBool exited (commands ≡ []) ((closed : List Token) × ClosedFrom job.held.mode (job.held.bytes ++ bytes) closed × (commands ≡ with_exit closed))
        → MatchBool exited (others ≡ []) ((closed : List Token) × ClosedFrom job.held.mode (job.held.bytes ++ bytes) closed × (others ≡ with_exit closed))
        → commands ≡ others
    at_exit true is are = is ∙ sym are
    at_exit false (c, closed, is) (d, other, are) = is ∙ ap with_exit (closed_once job.held.mode (job.held.bytes ++ bytes) c d closed other) ∙ sym are

left_does : (old new : JobState) (item : StepResult) (kind : Kind) (bytes : List ℕ) (items : List StepResult) → LeftWith old bytes items → Does old item kind new → StepsOn new bytes items item
left_does old new item kind bytes items is did =
    let later = Owes-some new bytes (λ e. is.owes.0 (sym (taken-ended old new did.given did.takes) ∙ e)) in
    let rest = later.0 in
    let same : is.from ≡ did.from = same_some old.machine is.from did.from is.starts did.starts in
    let commands : is.commands ≡ did.given ++ rest = Owes-one old bytes is.commands (did.given ++ rest) is.owes (taken-to_end old new did.given did.takes bytes rest later.1) in
    record {
      others = left rest new.bodies item.machine;
      are = is.are ∙ (λ j. left (commands j) old.bodies (same j)) ∙ left-then did.given rest old.bodies new.bodies did.from (item ∷ []) did.are;
      still = record { from = item.machine; starts = did.ends; commands = rest; owes = later.1; are = refl };
    }

-- what was left before a step
pub left_before : (old new : JobState) (item : StepResult) (kind : Kind) (bytes : List ℕ) (others : List StepResult)
    → LeftWith new bytes others → Does old item kind new → LeftWith old bytes (item ∷ others)
left_before old new item kind bytes others is did =
    let same : is.from ≡ item.machine = same_some new.machine is.from item.machine is.starts did.ends in
    record {
      from = did.from;
      starts = did.starts;
      commands = did.given ++ is.commands;
      owes = taken-to_end old new did.given did.takes bytes is.commands is.owes;
      are = grind (arith, is.are, same, left-then did.given is.commands old.bodies new.bodies did.from (item ∷ []) did.are);
    }

-- ---- nothing is left exactly of a job that is over

no_commands : (job : JobState) (bytes : List ℕ) (commands : List Token) → job.exited ≡ true → Owes job bytes commands → commands ≡ []
no_commands job bytes commands exited owes = grind (arith, exited, owes.1)

left_over : (job : JobState) (bytes : List ℕ) (items : List StepResult) → IsOver job → LeftWith job bytes items → items ≡ []
left_over job bytes items over is = grind (arith, no_commands, left-none, over.idle, over.exited)

-- ---- what comes in

left_opens : (bytes : List ℕ) (closed : List Token) → Closed bytes closed → LeftWith opened bytes (trace (with_exit closed) power_on)
left_opens bytes closed is = record {
  from = power_on;
  starts = refl;
  commands = with_exit closed;
  owes = (λ ended. absurd (false≢true ended), (closed, is, refl));
  are = refl;
}

left_pushes : (job : JobState) (piece more : List ℕ) (items : List StepResult) → job.held.ended ≡ false → LeftWith job (piece ++ more) items → LeftWith (with_piece piece job) more items
left_pushes job piece more items going is = record {
  from = is.from;
  starts = is.starts;
  commands = is.commands;
  owes = (
    λ ended. absurd (false≢true (sym going ∙ ended)),
    subst (λ (all : List ℕ). MatchBool job.exited (is.commands ≡ []) ((closed : List Token) × ClosedFrom job.held.mode all closed × (is.commands ≡ with_exit closed)))
        (sym (append_assoc job.held.bytes piece more)) is.owes.1,
  );
  are = is.are;
}

left_ends : (job : JobState) (items : List StepResult) → LeftWith job [] items → LeftWith (input_ended job) [] items
left_ends job items is = record { from = is.from; starts = is.starts; commands = is.commands; owes = (λ _. refl, is.owes.1); are = is.are }

pub left_goes_on : LeftGoesOn
left_goes_on = record { opens = left_opens; pushes = left_pushes; ends = left_ends; does = left_does; over = left_over }

-- something is owed by bodies of which the innermost has a command
some-then : (items others : List StepResult) → items ++ others ≡ [] → items ≡ []
some-then [] others is = refl
some-then (item ∷ items) others is = absurd cc

then-some : (items others : List StepResult) → items ++ others ≡ [] → others ≡ []
then-some [] others is = is
then-some (item ∷ items) others is = absurd cc

pub ready_owes : (bodies : List Activation) (machine : Machine) → HasNext bodies → continuation bodies machine ≡ [] → ⊥
ready_owes bodies machine (activation, command, rest, outer, is) none =
    let some = inner-continuation activation command rest outer machine in
    nothing (sym some ∙ ap (λ (activations : List Activation). continuation activations machine) (sym is) ∙ none) where
      nothing : {item : StepResult} {others : List StepResult} → item ∷ others ≡ [] → ⊥
      nothing e = cc

-- a command has an item
pub command_owes : (command : Token) (commands : List Token) (bodies : List Activation) (machine : Machine) → left (command ∷ commands) bodies machine ≡ [] → ⊥
unfolding trace_each
command_owes command commands bodies machine none =
    let at = last_machine machine (continuation bodies machine) in
    let items : List StepResult = trace_at macro_levels command at in
    let these : trace_at macro_levels command at ≡ [] = some-then items _ (then-some (continuation bodies machine) _ none) in
    nothing (sym (outer-continuation command at) ∙ these) where
      nothing : {item : StepResult} {others : List StepResult} → item ∷ others ≡ [] → ⊥
      nothing e = cc

exit_owes : (closed : List Token) (bodies : List Activation) (machine : Machine) → left (with_exit closed) bodies machine ≡ [] → ⊥
exit_owes [] bodies machine none = command_owes _ [] bodies machine none
exit_owes (command ∷ closed) bodies machine none = command_owes command (with_exit closed) bodies machine none

-- whether something is left, by what tells whether a body runs, and before the exit
pub tells_left : (job : JobState) (idle : Bool) (bytes : List ℕ) (items : List StepResult) → (IsTrue idle ↔ (job.bodies ≡ [])) → IsReady job.bodies → job.exited ≡ true → LeftWith job bytes items
    → IsTrue idle ↔ (items ≡ [])
tells_left job idle bytes items tells ready exited is =
    (λ still. grind (arith, no_commands, left-none, tells.0 still), λ none. by_ready none ready) where
      by_ready : items ≡ [] → IsReady job.bodies → IsTrue idle
      by_ready none (inl empty) = tells.1 empty
      by_ready none (inr next) = absurd (grind (arith, ready_owes job.bodies is.from next (some-then (continuation job.bodies is.from) _ (sym is.are ∙ none))))

pub tells_before : (job : JobState) (bytes : List ℕ) (items : List StepResult) → job.exited ≡ false → LeftWith job bytes items → IsTrue false ↔ (items ≡ [])
tells_before job bytes items going is = (λ e. absurd (false≢true e), λ none. absurd (grind (arith, exit_owes)))

pub not_exited : (phase : Phase) → phase ≢ phases.Exited → is_exited phase ≡ false
not_exited phases.Running other = refl
not_exited phases.Failed other = refl
not_exited phases.Exited other = absurd (other refl)
