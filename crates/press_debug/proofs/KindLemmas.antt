-- Each item of a trace has one kind, and item k has step k.
use Rattle.std.proofs.Common.{◌≡◌, ◌∙◌, ◌+◌, ℕ, List, [], ◌∷◌, ◌++◌, Option, Some, None, Bool, true, false, cond, length, refl, sym, ap, subst, arith}
use Rattle.press_cmd.specs.Kinds.{kind_of}
use Rattle.press_cmd.specs.Token.{Token}
use Rattle.press_cmd.specs.declared.variant.Kind.{Kind}
use Rattle.press_table.specs.Counts.{counted}
use Rattle.press_table.specs.declared.refusal.Refusal.{Refusal}
use Rattle.press_engine.specs.declared.activation.Activation.{Activation}
use Rattle.press_engine.specs.declared.machine.Machine.{Machine}
use Rattle.press_engine.specs.declared.machine.Last.{Last}
use Rattle.press_engine.specs.declared.machine.Last.TheVariants as lasts
use Rattle.press_engine.specs.declared.view.View.{View}
use Rattle.press_engine.specs.Begun.{Begun, end_of, begun_only}
use Rattle.press_engine.specs.Engine.{view_of}
use Rattle.press_engine.specs.Machine.{StepResult, carried, macro_levels, power_on}
use Rattle.press_engine.specs.Stack.{items_in}
use Rattle.press_engine.specs.Steps.{CountFrom}
use Rattle.press_engine.specs.Trace.{last_machine, with_end, trace_each, trace_at}
use Rattle.press_engine.proofs.BegunLemmas.{end-last}
use Rattle.press_engine.proofs.CommandItems.{Taking, taking, taking_in, now, begins_at, StartsIn, command-all}
use Rattle.press_engine.proofs.StepLaws.{each_item_is_one_step}
use Rattle.press_debug.specs.Places.{HasKind, HaveKinds, ShowsItem, StandsBehind}
use Rattle.press_debug.specs.Steps.{DebuggerState, kind_taken}

-- ---- kinds

kind-last : (recorded : Bool) (kind : Kind) (refusal : Option Refusal) → (one : Kind) × (kind_taken (cond recorded (lasts.Recorded kind) (carried kind refusal)) ≡ one ∷ [])
kind-last true kind refusal = (kind, refl)
kind-last false kind None = (kind, refl)
kind-last false kind (Some refusal) = (kind, refl)

same-kind : (item : StepResult) (last : Last) → item.machine.last ≡ last → (kind : Kind) × (kind_taken last ≡ kind ∷ []) → HasKind item
same-kind item last is (kind, one) = (kind, ap kind_taken is ∙ one)

have-append : (items others : List StepResult) → HaveKinds items → HaveKinds others → HaveKinds (items ++ others)
have-append [] others have more = more
have-append (item ∷ items) others (one, have) more = (one, have-append items others have more)

have-front : (items others : List StepResult) → HaveKinds (items ++ others) → HaveKinds items
have-front [] others have = tt
have-front (item ∷ items) others (one, have) = (one, have-front items others have)

-- an end of a body that takes nothing
with_end-have : (end : Machine → StepResult) → ((machine : Machine) → (end machine).machine.last ≡ machine.last)
    → (item : StepResult) (items : List StepResult) → HaveKinds (item ∷ items) → HaveKinds (with_end end item items)
with_end-have end keeps item [] (one, have) = (same-kind (end item.machine) item.machine.last (keeps item.machine) one, tt)
with_end-have end keeps item (next ∷ items) (one, have) = (one, with_end-have end keeps next items have)

each-have : (one : Token → Machine → List StepResult) → ((command : Token) (machine : Machine) → HaveKinds (one command machine))
    → (commands : List Token) (machine : Machine) → HaveKinds (trace_each one commands machine)
unfolding trace_each
each-have one have [] machine = tt
each-have one have (command ∷ commands) machine =
    have-append (one command machine) (trace_each one commands (last_machine machine (one command machine))) (have command machine)
    (each-have one have commands (last_machine machine (one command machine)))

abbrev Have : Taking → Begun → List StepResult → Type 0
Have at begin items = HaveKinds items

taken-kind : (at : Taking) (item : StepResult) → item.machine.last ≡ (now at).last → HasKind item
taken-kind at item is = same-kind item (now at).last is (kind-last _ (kind_of at.command) _)

body-have : (at : Taking) (item : StepResult) (activation : Activation) → StartsIn at item activation
    → ((one : Token) (machine : Machine) → Have (taking_in activation one machine) (begins_at (taking_in activation one machine)) (items_in activation one machine))
    → Have at (begun_only item) (with_end (end_of activation) item (trace_each (items_in activation) activation.body item.machine))
body-have at item activation starts inside =
    with_end-have (end_of activation) (end-last activation.end activation.depth) item (trace_each (items_in activation) activation.body item.machine)
    (taken-kind at item starts.last, each-have (items_in activation) inside activation.body item.machine)

at-have : (command : Token) (machine : Machine) → HaveKinds (trace_at macro_levels command machine)
at-have command machine = command-all Have (λ at item is. (taken-kind at item is.last, tt)) body-have (taking false macro_levels command machine)

pub kinds_of_places : (bytes : List ℕ) (items : List StepResult) (now : DebuggerState) → StandsBehind bytes items now → HaveKinds items
kinds_of_places bytes items now behind =
    have-front items behind.others
    (subst HaveKinds (sym behind.are.2) (each-have (trace_at macro_levels) at-have (_) power_on))

-- ---- steps

counts-front : (machine : Machine) (items others : List StepResult) → CountFrom machine (items ++ others) → CountFrom machine items
counts-front machine [] others count = tt
counts-front machine (item ∷ items) others (one, count) = (one, counts-front item.machine items others count)

last-counts : (machine : Machine) (items : List StepResult) → CountFrom machine items → (first : ℕ) → machine.step ≡ counted 0 first
    → (last_machine machine items).step ≡ counted 0 (first + length items)
last-counts machine [] count first is = is ∙ ap (counted 0) (omega arith)
last-counts machine (item ∷ items) (one, count) first is =
    let here : item.machine.step ≡ counted 0 (first + 1) = one ∙ ap (λ n. counted n 1) is ∙ omega arith in
    last-counts item.machine items count (first + 1) here ∙ ap (counted 0) (omega arith)

pub shows_item : (now : DebuggerState) (view : View) → ((machine : Machine) → now.job.machine ≡ Some machine → view ≡ view_of view.stack machine)
    → (bytes : List ℕ) (items : List StepResult) → StandsBehind bytes items now → ShowsItem view items
shows_item now view is bytes items behind =
    let last = last_machine power_on items in
    let seen : view ≡ view_of view.stack last = is last behind.state in
    let counts = counts-front power_on items behind.others (subst (CountFrom power_on) (sym behind.are.2) (each_item_is_one_step _ power_on)) in
    let none : 0 + length items ≡ length items = omega arith in
    (seen, ap (λ (one : View). one.step) seen ∙ last-counts power_on items counts 0 refl ∙ ap (counted 0) none)
