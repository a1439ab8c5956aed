-- Each item of a trace is one step, and the first of a command takes that command.
use Rattle.std.proofs.Common.{◌≡◌, ◌∙◌, List, [], ◌∷◌, ◌++◌, true, false, refl, subst, arith}
use Rattle.press_cmd.specs.Kinds.{kind_of}
use Rattle.press_cmd.specs.Token.{Token}
use Rattle.press_engine.specs.declared.activation.Activation.{Activation}
use Rattle.press_engine.specs.declared.machine.Machine.{Machine}
use Rattle.press_table.specs.declared.state.State.{State}
use Rattle.press_table.specs.Outcome.{Effect, Changes, MayAllocate, GivesReply, Stays, Closes, Starts}
use Rattle.press_table.specs.PageKept.{KeepsOtherLines, OtherLinesStay, PageStays, kind_may_change_page, kind_transfers_rows}
use Rattle.press_table.specs.Table.{effect_on}
use Rattle.press_engine.specs.Begun.{Begun, end_of, begun_only, begun_outside}
use Rattle.press_engine.specs.Machine.{StepResult, silent, with_state, taken, last_of, macro_levels, source_at}
use Rattle.press_engine.specs.PageKept.{TakesFirst, OthersKeepThePage, RowsKeepOtherLines}
use Rattle.press_engine.specs.Stack.{items_in}
use Rattle.press_engine.specs.Steps.{CountFrom}
use Rattle.press_engine.specs.Trace.{last_machine, with_end, trace_each, begun_items, inside_of, trace_at}
use Rattle.press_engine.proofs.BegunLemmas.{end-last, end-step}
use Rattle.press_engine.proofs.CommandItems.{Taking, taking, taking_in, now, begins_at, StartsIn, command-all}
use Rattle.press_table.proofs.PageKeptLemmas.{row_keeps_other_lines, row_keeps_the_page}

append-counts : (items others : List StepResult) (machine : Machine) → CountFrom machine items → CountFrom (last_machine machine items) others → CountFrom machine (items ++ others)
append-counts [] others machine count more = more
append-counts (item ∷ items) others machine (one, count) more = (one, append-counts items others item.machine count more)

-- an end of a body that counts nothing
with_end-counts : (end : Machine → StepResult) → ((machine : Machine) → (end machine).machine.step ≡ machine.step)
    → (item : StepResult) (items : List StepResult) (machine : Machine) → CountFrom machine (item ∷ items)
    → CountFrom machine (with_end end item items)
with_end-counts end keeps item [] machine (one, count) = (keeps item.machine ∙ one, tt)
with_end-counts end keeps item (next ∷ items) machine (one, count) = (one, with_end-counts end keeps next items item.machine count)

with_end-takes : (end : Machine → StepResult) → ((machine : Machine) → (end machine).machine.last ≡ machine.last)
    → (item : StepResult) (items : List StepResult) → TakesFirst item.machine.last (with_end end item items)
with_end-takes end keeps item [] = keeps item.machine
with_end-takes end keeps item (next ∷ items) = refl

each-counts : (one : Token → Machine → List StepResult) → ((command : Token) (machine : Machine) → CountFrom machine (one command machine))
    → (commands : List Token) (machine : Machine) → CountFrom machine (trace_each one commands machine)
unfolding trace_each
each-counts one counts [] machine = tt
each-counts one counts (command ∷ commands) machine =
    append-counts (one command machine) (trace_each one commands (last_machine machine (one command machine))) machine (counts command machine)
    (each-counts one counts commands (last_machine machine (one command machine)))

-- the items of a command: an item alone, and a body
abbrev Counts : Taking → Begun → List StepResult → Type 0
Counts at begin items = CountFrom at.machine items × TakesFirst (now at).last items

body-counts : (at : Taking) (item : StepResult) (activation : Activation) → StartsIn at item activation
    → ((one : Token) (machine : Machine) → Counts (taking_in activation one machine) (begins_at (taking_in activation one machine)) (items_in activation one machine))
    → Counts at (begun_only item) (with_end (end_of activation) item (trace_each (items_in activation) activation.body item.machine))
body-counts at item activation starts inside =
    let items = trace_each (items_in activation) activation.body item.machine in (
      with_end-counts (end_of activation) (end-step activation.end activation.depth) item items at.machine
          (starts.step, each-counts (items_in activation) (λ one machine. (inside one machine).0) activation.body item.machine),
      subst (λ last. TakesFirst last (with_end (end_of activation) item items)) starts.last
          (with_end-takes (end_of activation) (end-last activation.end activation.depth) item items),
    )

at-counts : (command : Token) (machine : Machine) → CountFrom machine (trace_at macro_levels command machine) × TakesFirst (last_of (source_at macro_levels) command machine.state) (trace_at macro_levels command machine)
at-counts command machine = command-all Counts (λ at item is. ((is.step, tt), is.last)) body-counts (taking false macro_levels command machine)

pub each_item_is_one_step : (commands : List Token) (machine : Machine) → CountFrom machine (trace_each (trace_at macro_levels) commands machine)
each_item_is_one_step = each-counts (trace_at macro_levels) (λ command machine. (at-counts command machine).0)

-- ---- a command whose row keeps the page

begun-keeps : (machine : Machine) (before : State) (effect : Effect) → PageStays before effect
    → (item : StepResult)
    × (begun_items (inside_of (trace_at 1)) (begun_outside macro_levels machine effect) ≡ item ∷ [])
    × (item.machine.state.page ≡ before.page)
begun-keeps machine before (Changes state) stays = (silent (with_state state machine), refl, stays)
begun-keeps machine before (MayAllocate state) stays = (silent (with_state state machine), refl, stays)
begun-keeps machine before (GivesReply reply state) stays = absurd stays
begun-keeps machine before (Stays cause state) stays = absurd stays
begun-keeps machine before (Closes cause state) stays = absurd stays
begun-keeps machine before (Starts commands end state) stays = absurd stays

page-kept : (command : Token) (machine : Machine) → kind_may_change_page (kind_of command) ≡ false
    → (item : StepResult) × (trace_at macro_levels command machine ≡ item ∷ []) × (item.machine.state.page ≡ machine.state.page)
unfolding trace_at
page-kept command machine keeps =
    grind (arith, begun-keeps (taken (source_at macro_levels) command machine) machine.state (effect_on (source_at macro_levels) command machine.state) (row_keeps_the_page (source_at macro_levels) command machine.state keeps))

pub others_keep_the_page : OthersKeepThePage
others_keep_the_page = record { takes = λ command machine. (at-counts command machine).1; keeps = page-kept }

-- ---- a command whose row keeps lines

begun-lines : (machine : Machine) (before : State) (effect : Effect) → OtherLinesStay before effect
    → (item : StepResult)
    × (begun_items (inside_of (trace_at 1)) (begun_outside macro_levels machine effect) ≡ item ∷ [])
    × KeepsOtherLines before item.machine.state
begun-lines machine before (Changes state) stay = (silent (with_state state machine), refl, stay)
begun-lines machine before (MayAllocate state) stay = (silent (with_state state machine), refl, stay)
begun-lines machine before (GivesReply reply state) stay = absurd stay
begun-lines machine before (Stays cause state) stay = absurd stay
begun-lines machine before (Closes cause state) stay = absurd stay
begun-lines machine before (Starts commands end state) stay = absurd stay

lines-kept : (command : Token) (machine : Machine) → kind_transfers_rows (kind_of command) ≡ true
    → (item : StepResult) × (trace_at macro_levels command machine ≡ item ∷ []) × KeepsOtherLines machine.state item.machine.state
unfolding trace_at
lines-kept command machine rows =
    grind (arith, begun-lines (taken (source_at macro_levels) command machine) machine.state (effect_on (source_at macro_levels) command machine.state) (row_keeps_other_lines (source_at macro_levels) command machine.state rows))

pub rows_keep_other_lines : RowsKeepOtherLines
rows_keep_other_lines = record { keeps = lines-kept }
