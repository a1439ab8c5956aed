-- What a step says of the bodies that run, of the command that it took, and of memory.
use Rattle.std.proofs.Common.{◌≡◌, ◌≢◌, ◌⊎◌, ◌≤◌, ◌∙◌, List, [], ◌∷◌, ◌++◌, Bool, true, if◌then◌else◌, Option, Result, Err, IsErr, Vec, inl, inr, refl, sym, subst, arith}
use Rattle.std.specs.declared.alloc.Global.{Global}
use Rattle.press_cmd.specs.Token.{Token}
use Rattle.press_cmd.specs.Kinds.{kind_of}
use Rattle.press_cmd.specs.declared.variant.Kind.{Kind}
use Rattle.press_table.specs.declared.effect.Sent.{Sent}
use Rattle.press_table.specs.declared.refusal.Refusal.{Refusal}
use Rattle.press_table.specs.declared.effect.Source.{Source}
use Rattle.press_engine.specs.declared.activation.Activation.{Activation}
use Rattle.press_engine.specs.declared.machine.Last.{Last}
use Rattle.press_engine.specs.declared.machine.Last.TheVariants as lasts
use Rattle.press_engine.specs.declared.machine.Machine.{Machine}
use Rattle.press_table.specs.Memory.{TakesMemory}
use Rattle.press_engine.specs.Begun.{Begun, end_of}
use Rattle.press_engine.specs.Engine.{IsOfKind, StepsTo}
use Rattle.press_engine.specs.Machine.{StepResult, then_run, carried, last_of}
use Rattle.press_engine.specs.Stack.{room_where, room_in, IsNested, IsSound, IsOverlayEnd, EndsOverlay}
use Rattle.press_engine.specs.Stepping.{used_up, Stepped, ended_by, unwind, finished, Gives, stepped_of, LeavesWork}
use Rattle.press_engine.proofs.CommandItems.{Taking, now, begins_at, effect_at, command-all}
use Rattle.press_engine.proofs.ItemsLemmas.{ready-of}
use Rattle.press_engine.proofs.StackLemmas.{unwind-nested, begins-nested, begins-wants}

unwind-last : (activations : List Activation) (item : StepResult) → (unwind activations item).item.machine.last ≡ item.machine.last
unwind-last [] item = refl
unwind-last (activation ∷ activations) item = grind (arith, unwind-last activations)

pub step-last : (at : Taking) (round : List Activation) → (finished (begins_at at) round).item.machine.last ≡ (now at).last
step-last at round =
    unwind-last ((begins_at at).started ++ round) (begins_at at).item
    ∙ command-all (λ at begin items. begin.item.machine.last ≡ (now at).last) (λ at item is. is.last) (λ at item activation starts inside. starts.last) at

-- it is of the command's kind
kind-if : (recorded : Bool) (kind : Kind) (refusal : Option Refusal) → IsOfKind (if recorded then lasts.Recorded kind else carried kind refusal) kind
kind-if recorded kind refusal = grind arith

pub last-kind : (source : Source) (command : Token) (machine : Machine) (last : Last) → last ≡ last_of source command machine.state → IsOfKind last (kind_of command)
last-kind source command machine last is = grind (arith, kind-if)

some-last : (last : Last) (kind : Kind) → IsOfKind last kind → last ≢ lasts.Nothing
some-last last kind of_kind = grind arith

pub taken-last : (source : Source) (command : Token) (machine : Machine) (last : Last) → last ≡ last_of source command machine.state → last ≢ lasts.Nothing
taken-last source command machine last is = some-last last (kind_of command) (last-kind source command machine last is)

-- a step of the code gives the first of the items that were owed
pub steps-to : (owing : List StepResult) (stepped : Stepped) (kind : Kind) (sent : Vec Sent Global) (new : Machine)
    (still : List Activation)
    → Gives stepped owing → stepped_of new sent.items still ≡ stepped → IsOfKind new.last kind
    → StepsTo owing (record { kind = kind; sent = sent }) new still
steps-to owing stepped kind sent new still gives is of_kind = grind arith

-- the bodies between two steps
pub step-sound : (at : Taking) (round still : List Activation) → IsNested round → room_where at.in_overlay at.levels ≤ room_in round
    → still ≡ (finished (begins_at at) round).activations → IsSound still
step-sound at round still nested room is =
    let begin = begins_at at in
    record {
      ready = ready-of (begin.started ++ round) still begin.item is;
      nested = subst IsNested (sym is) (unwind-nested (begin.started ++ round) begin.item (begins-nested at round nested room));
    }

-- an answer that was an error
pub is_err-of : {X E : Type 0} (result : Result X E) (error : E) → result ≡ Err error → IsErr result
is_err-of result error is = grind arith

pub ends-overlay : (activations rest : List Activation) (activation : Activation) → activations ≡ activation ∷ rest
    → used_up activation.body ≡ true → IsOverlayEnd activation.end ⊎ EndsOverlay rest → EndsOverlay activations
ends-overlay activations rest activation is used ends = subst EndsOverlay (sym is) (grind arith, ends)

-- where the rest of a step may take memory, so may the command, or an overlay ends with it
pub goes-memory : (at : Taking) (round : List Activation) → LeavesWork (begins_at at) round → TakesMemory (effect_at at) ⊎ EndsOverlay round
goes-memory at round h1 = grind (arith, begins-wants)

-- no overlay ends where no body runs
pub no-overlay : {X : Type 0} → X ⊎ EndsOverlay [] → X
no-overlay h1 = grind arith

ended-sends : (body : List Token) (activations : List Activation) (activation : Activation) → activation.body ≡ body
    → ((item : StepResult) → (unwind activations item).item.outputs ≢ [] → (item.outputs ≢ []) ⊎ EndsOverlay activations)
    → (item : StepResult) → (ended_by body activations activation (unwind activations) item).item.outputs ≢ []
    → (item.outputs ≢ []) ⊎ EndsOverlay (activation ∷ activations)
ended-sends [] activations activation used outer item some = grind (arith, outer (then_run item.outputs (end_of activation item.machine)) some)
ended-sends (command ∷ rest) activations activation used outer item some = inl some

pub unwind-sends : (activations : List Activation) (item : StepResult) → (unwind activations item).item.outputs ≢ [] → (item.outputs ≢ []) ⊎ EndsOverlay activations
unwind-sends [] item some = inl some
unwind-sends (activation ∷ activations) item some = ended-sends activation.body activations activation refl (unwind-sends activations) item some

-- so in a step, of the stream or inside a body
ends-append : (started round : List Activation) → EndsOverlay (started ++ round) → (started ≢ []) ⊎ EndsOverlay round
ends-append [] round ends = inr ends
ends-append (activation ∷ started) round ends = inl (λ (none : activation ∷ started ≡ []). cc)

goes-on : (begin : Begun) (round : List Activation) → (begin.item.outputs ≢ []) ⊎ EndsOverlay (begin.started ++ round) → LeavesWork begin round
goes-on begin round (inl some) = inl some
goes-on begin round (inr ends) = inr (ends-append begin.started round ends)

pub step-sends : (at : Taking) (round : List Activation) → (finished (begins_at at) round).item.outputs ≢ [] → TakesMemory (effect_at at) ⊎ EndsOverlay round
step-sends at round some =
    let begin = begins_at at in
    goes-memory at round (goes-on begin round (unwind-sends (begin.started ++ round) begin.item some))
