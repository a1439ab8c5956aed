-- A step that was taken, and what is told of it.
use Rattle.std.proofs.Common.{◌≡◌, ◌∙◌, ◌+◌, ◌≤◌, ◌&&◌, ◌↔◌, not, ℕ, List, [], ◌∷◌, length, Bool, true, false, cond, Option, Some, None, IfSome, IsSome, IsTrue, Ok, is_some, refl, sym, ap, subst, inl, inr, arith}
use Rattle.std.specs.Prelude.{if◌then◌else◌}
use Rattle.std.proofs.lemmas.Bool.{true≢false, false≢true}
use Rattle.serde_json.specs.Data.{Data}
use Rattle.press_bits.specs.Page.{Page}
use Rattle.press_canvas.specs.Changes.{AgreeBesideLines}
use Rattle.press_page.specs.declared.media.Orientation.{Orientation}
use Rattle.press_cmd.specs.Kinds.{kind_of}
use Rattle.press_cmd.specs.Token.{Token, Uel}
use Rattle.press_cmd.specs.declared.variant.Kind.{Kind}
use Rattle.press_scan.specs.ScannerState.{ScannerState}
use Rattle.press_sink.specs.Sending.{Output}
use Rattle.press_engine.specs.declared.step_output.StepOutput.{StepOutput}
use Rattle.press_engine.specs.declared.machine.Last.{Last}
use Rattle.press_engine.specs.declared.machine.Last.TheVariants as lasts
use Rattle.press_engine.specs.declared.machine.Machine.{Machine}
use Rattle.press_engine.specs.declared.view.View.{View}
use Rattle.press_engine.specs.Engine.{IsOfKind, view_of}
use Rattle.press_engine.specs.Machine.{StepResult, carried, last_of, macro_levels}
use Rattle.press_table.specs.PageKept.{KeepsOtherLines, kind_may_change_page, kind_transfers_rows, most_dot_lines, row_line}
use Rattle.press_table.specs.Refusals.{refusal_of}
use Rattle.press_table.specs.declared.effect.Source.TheVariants.{Stream}
use Rattle.press_table.specs.declared.refusal.Refusal.{Refusal}
use Rattle.press_table.specs.declared.state.State.{State}
use Rattle.press_engine.specs.PageKept.{TakesFirst, OthersKeepThePage, RowsKeepOtherLines}
use Rattle.press_engine.specs.Stack.{HasNext, continuation}
use Rattle.press_table.specs.Table.{is_recorded}
use Rattle.press_engine.specs.Trace.{trace_at}
use Rattle.press_stream.specs.Meaning.{left}
use Rattle.press_stream.specs.State.{JobState}
use Rattle.press_stream.specs.declared.step.JobStep.{JobStep}
use Rattle.press_stream.specs.declared.step.JobStep.TheVariants as steps
use Rattle.press_stream.specs.Answers.{TakesStep}
use Rattle.press_stream.specs.Steps.{Does, DoesStep, TakesGiven}
use Rattle.press_stream.proofs.Items.{left-one}
use Rattle.press_trace.specs.declared.place.Place.{Place}
use Rattle.press_trace.specs.declared.seen.Seen.{Seen}
use Rattle.press_trace.specs.declared.sent.WentOut.{WentOut}
use Rattle.press_trace.specs.Lines.{IsLineOf, IsViewOf, IsViewIf, run_members, line_text, page_if}
use Rattle.press_trace.specs.Pages.{IsPageTold, KeepsRest}
use Rattle.press_trace.specs.Seen.{IsAlike, IsAlikeIf}
use Rattle.press_trace.specs.Sent.{AreOut}
use Rattle.press_trace.specs.Tracing.{IsKept, Keeps, lines_between, place_if, place_of, touched_by}
use Rattle.press_trace.specs.declared.touched.Touched.TheVariants.{Nothing, Whole}

-- ---- the page

-- nothing is told of a page that is as it was
pub told_same : (page : Option Page) (opened told : Option Data) → opened ≡ None → told ≡ None → IsPageTold page page opened told
told_same None opened told none nothing = (none, nothing)
told_same (Some page) opened told none nothing = (page, (refl, refl, inl (refl, none)), inl (refl, nothing))

-- ---- the line

view_if : (before : Option Machine) (kept : Option Seen) (page : Option Page) (seen : Option View) → IsKept before kept page → IsAlikeIf kept seen → IsViewIf before seen
view_if None None page None keeps alike = tt
view_if None None page (Some view) keeps alike = absurd alike
view_if None (Some seen) page view keeps alike = absurd keeps
view_if (Some machine) None page view keeps alike = absurd keeps
view_if (Some machine) (Some seen) page None keeps alike = absurd alike
view_if (Some machine) (Some seen) page (Some view) keeps alike =
    (alike.fields ∙ ap (λ (one : View). record one { stack = view.stack }) keeps.fields, alike.pushed ∙ keeps.pushed)

page-before : (before : Option Machine) (kept : Option Seen) (page : Option Page) → IsKept before kept page → page ≡ page_if before
page-before None None page keeps = keeps
page-before None (Some seen) page keeps = absurd keeps
page-before (Some machine) None page keeps = absurd keeps
page-before (Some machine) (Some seen) page keeps = keeps.shown

pub is_line : (steps : ℕ) (before : Option Machine) (place : Place) (machine : Machine) (outputs : List Output) (kept : Option Seen)
    (page : Option Page) (seen : Option View) (now : View) (opened told : Option Data) (went : WentOut) (text : List ℕ)
    → IsKept before kept page → IsAlikeIf kept seen → IsViewOf machine now → IsPageTold page machine.state.page opened told → AreOut went outputs
    → text ≡ line_text (run_members steps place went.sheets went.replies.items seen now opened told) → IsLineOf steps before (record { place = place; run = record { machine = machine; outputs = outputs } }) text
is_line steps before place machine outputs kept page seen now opened told went text keeps alike is shows out here = record {
  seen = seen;
  now = now;
  opened = opened;
  page = told;
  seen_is = view_if before kept page seen keeps alike;
  now_is = is;
  page_is = subst (λ (before : Option Page). IsPageTold before machine.state.page opened told) (page-before before kept page keeps) shows;
  text_is = here ∙ (λ i. line_text (run_members steps place (out.sheets i) (out.replies i) seen now opened told));
}

pub keeps_now : (seen : Seen) (view : View) (page : Option Page) (machine : Machine) → IsAlike seen view → IsViewOf machine view → page ≡ machine.state.page → Keeps seen page machine
keeps_now seen view page machine alike is shows = record {
  fields = ap (λ (one : View). record one { stack = seen.view.stack }) (sym alike.fields ∙ is.0);
  pushed = sym alike.pushed ∙ is.1;
  shown = shows;
}

-- something was kept of a machine that was told
pub kept_told : (machine : Machine) (kept : Option Seen) (page : Option Page) → IsKept (Some machine) kept page → IsSome kept
kept_told machine None page keeps = absurd keeps
kept_told machine (Some seen) page keeps = refl

pub kept_page : (machine : Machine) (kept : Option Seen) (page : Option Page) → IsKept (Some machine) kept page → page ≡ machine.state.page
kept_page machine None page keeps = absurd keeps
kept_page machine (Some seen) page keeps = keeps.shown

pub kept_now : (machine : Machine) (kept : Option Seen) (page : Option Page) (now : Option Machine) → now ≡ Some machine
    → IsKept (Some machine) kept page → IsKept (cond (is_some kept) now None) kept page
kept_now machine None page now is keeps = absurd keeps
kept_now machine (Some seen) page now is keeps = subst (λ (one : Option Machine). IsKept one (Some seen) page) (sym is) keeps

-- ---- the step

-- what a step of a job did
pub step_did : (old new : JobState) (answer : JobStep) (step : StepOutput) → answer ≡ steps.Ran step → TakesStep old (Ok answer) new → DoesStep old step new
step_did old new answer step is takes = subst (λ (one : JobStep). TakesStep old (Ok one) new) is takes

none_runs : (bodies : List _) → HasNext bodies → bodies ≡ [] → ⊥
none_runs bodies (activation, command, rest, outer, is) none = cc

pub fewer_held : (old new : JobState) (item : StepResult) (kind : Kind) → Does old item kind new → length new.held.bytes ≤ length old.held.bytes
fewer_held old new item kind does = by does.takes where
  by : TakesGiven old does.given new → length new.held.bytes ≤ length old.held.bytes
  by (inl (inside, nothing, held, exited)) = omega (arith, ap (λ (now : ScannerState). length now.bytes) held)
  by (inr (inl (command, is, idle, going, still, passes))) = omega (arith, passes.used)
  by (inr (inr (is, idle, going, out, held, ended, done))) = omega (arith, ap (λ (now : ScannerState). length now.bytes) held)

pub ended_still : (old new : JobState) (item : StepResult) (kind : Kind) → Does old item kind new → new.held.ended ≡ old.held.ended
ended_still old new item kind does = by does.takes where
  by : TakesGiven old does.given new → new.held.ended ≡ old.held.ended
  by (inl (inside, nothing, held, exited)) = ap (λ (now : ScannerState). now.ended) held
  by (inr (inl (command, is, idle, going, still, passes))) = passes.ended
  by (inr (inr (is, idle, going, out, held, ended, done))) = ap (λ (now : ScannerState). now.ended) held

-- where its command stands
pub place_is : (old new : JobState) (item : StepResult) (kind : Kind) (does : Does old item kind new) (outside : Bool) (long : ℕ)
    (place : Place)
    → IsTrue outside ↔ (old.bodies ≡ [])
    → place_if outside long (length old.held.bytes) (length new.held.bytes) place ≡ place_of long place does.given old.held new.held
place_is old new item kind does true long place tells = by does.takes where
  idle : old.bodies ≡ []
  idle = tells.0 refl

  by : TakesGiven old does.given new → place_if true long (length old.held.bytes) (length new.held.bytes) place ≡ place_of long place does.given old.held new.held
  by (inl (inside, nothing, held, exited)) = absurd (none_runs old.bodies inside idle)
  by (inr (inl (command, is, idle, going, still, passes))) = ap (λ (given : List Token). place_of long place given old.held new.held) (sym is)
  by (inr (inr (is, idle, going, out, held, ended, done))) = ap (λ (given : List Token). place_of long place given old.held new.held) (sym is)
place_is old new item kind does false long place tells = by does.takes where
  by : TakesGiven old does.given new → place_if false long (length old.held.bytes) (length new.held.bytes) place ≡ place_of long place does.given old.held new.held
  by (inl (inside, nothing, held, exited)) = ap (λ (given : List Token). place_of long place given old.held new.held) (sym nothing)
  by (inr (inl (command, is, idle, going, still, passes))) = absurd (false≢true (tells.1 idle))
  by (inr (inr (is, idle, going, out, held, ended, done))) = absurd (false≢true (tells.1 idle))

kind_taken : (recorded : Bool) (refusal : Option Refusal) (command : Token) (kind : Kind)
    → IsOfKind (cond recorded (lasts.Recorded (kind_of command)) (carried (kind_of command) refusal)) kind → kind ≡ kind_of command
kind_taken true refusal command kind is = is
kind_taken false None command kind is = is
kind_taken false (Some refusal) command kind is = is

-- a command of the stream that has one item took it, and is of its kind
first_of : OthersKeepThePage
    → (old new : JobState) (item : StepResult) (kind : Kind) (does : Does old item kind new) (command : Token) → does.given ≡ command ∷ []
    → old.bodies ≡ [] → (kind ≡ kind_of command) × (trace_at macro_levels command does.from ≡ item ∷ continuation new.bodies item.machine)
first_of law old new item kind does command is idle =
    let owes : trace_at macro_levels command does.from ≡ item ∷ continuation new.bodies item.machine =
    sym (left-one command does.from) ∙ (λ i. left (sym is i) (sym idle i) does.from) ∙ does.are in
    let took : item.machine.last ≡ last_of Stream command does.from.state = subst (TakesFirst (last_of Stream command does.from.state)) owes (law.takes command does.from) in
    (kind_taken (is_recorded command does.from.state) (refusal_of Stream command does.from.state) command kind (subst (λ (last : Last). IsOfKind last kind) took does.is_kind), owes)

-- a command of the stream of a kind that changes no page
command_keeps : OthersKeepThePage
    → (old new : JobState) (item : StepResult) (kind : Kind) (does : Does old item kind new) (command : Token) → does.given ≡ command ∷ []
    → old.bodies ≡ [] → kind_may_change_page kind ≡ false → item.machine.state.page ≡ does.from.state.page
command_keeps law old new item kind does command is idle keeps =
    let first = first_of law old new item kind does command is idle in
    let only = law.keeps command does.from (ap kind_may_change_page (sym first.0) ∙ keeps) in
    let same : item ≡ only.0 = cc in
    ap (λ (one : StepResult). one.machine.state.page) same ∙ only.2

-- a command of the stream that transfers rows
command_keeps_lines : OthersKeepThePage → RowsKeepOtherLines
    → (old new : JobState) (item : StepResult) (kind : Kind) (does : Does old item kind new) (command : Token) → does.given ≡ command ∷ []
    → old.bodies ≡ [] → kind_transfers_rows kind ≡ true → KeepsOtherLines does.from.state item.machine.state
command_keeps_lines law rows old new item kind does command is idle transfers =
    let first = first_of law old new item kind does command is idle in
    let only = rows.keeps command does.from (ap kind_transfers_rows (sym first.0) ∙ transfers) in
    let same : only.0 ≡ item = cc in
    subst (λ (one : StepResult). KeepsOtherLines does.from.state one.machine.state) same only.2

-- a step outside of bodies takes a command of the stream, or the exit at its end
outer_step : (P : Type 0) (old new : JobState) (item : StepResult) (kind : Kind) (does : Does old item kind new) → old.bodies ≡ []
    → ((command : Token) → does.given ≡ command ∷ [] → P) → P
outer_step P old new item kind does idle by = takes does.takes where
  takes : TakesGiven old does.given new → P
  takes (inl (inside, nothing, held, exited)) = absurd (none_runs old.bodies inside idle)
  takes (inr (inl (command, is, idle, going, still, passes))) = by command is
  takes (inr (inr (is, idle, going, out, held, ended, done))) = by Uel is

both_hold : (a b : Bool) → (a && b) ≡ true → (a ≡ true) × (b ≡ true)
both_hold true b is = (refl, is)
both_hold false b is = absurd (true≢false (sym is))

not_true : (b : Bool) → not b ≡ true → b ≡ false
not_true true is = absurd (true≢false (sym is))
not_true false is = refl

-- a frame lies as that of the page that is printed
abbrev pub LiesSo : Orientation → State → Type 0
LiesSo orientation state = orientation ≡ state.environment.page_setup.orientation

-- a line that was found is that of a row at the cursor
abbrev pub IsLineAt : Option ℕ → State → Type 0
IsLineAt found state = IfSome found (λ line. row_line state.environment state.cursor.y ≡ Some line)

pub line_at : (found : Option ℕ) (view : View) (given : Option Machine) (machine : Machine) → IfSome found (λ line. row_line view.environment view.y.0 ≡ Some line)
    → IfSome given (λ machine. view ≡ view_of view.stack machine) → given ≡ Some machine → IsLineAt found machine.state
line_at None view given machine at is here = tt
line_at (Some line) view given machine at is here =
    let same : view ≡ view_of view.stack machine = subst (λ (some : Option Machine). IfSome some (λ machine. view ≡ view_of view.stack machine)) here is in
    ap (λ (one : View). row_line one.environment one.y.0) (sym same) ∙ at

-- a frame that is seen lies as that of the machine
pub lies_so : (view : View) (given : Option Machine) (machine : Machine)
    → IfSome given (λ machine. view ≡ view_of view.stack machine) → given ≡ Some machine → LiesSo view.environment.page_setup.orientation machine.state
lies_so view given machine here is =
    ap (λ (one : View). one.environment.page_setup.orientation) (subst (λ (some : Option Machine). IfSome some (λ machine. view ≡ view_of view.stack machine)) is here)

pub lines_kept : (orientation : Orientation) (before behind : Option ℕ) (old new : State) → LiesSo orientation old → IsLineAt before old → IsLineAt behind new
    → KeepsOtherLines old new → KeepsRest (lines_between orientation before behind) old.page new.page
lines_kept orientation (Some first) (Some last) old new lies one other keeps = λ page next is next_is.
    subst (λ (o : Orientation). AgreeBesideLines o first (last + most_dot_lines) page next) (sym lies) (keeps first last page next one other is next_is)
lines_kept orientation (Some first) None old new lies one other keeps = tt
lines_kept orientation None behind old new lies one other keeps = tt

-- what a step leaves of the page
pub rest_is_kept : OthersKeepThePage → RowsKeepOtherLines
    → (old new : JobState) (item : StepResult) (kind : Kind) (does : Does old item kind new) (outside : Bool) (orientation : Orientation)
    (before behind : Option ℕ)
    → IsTrue outside ↔ (old.bodies ≡ []) → LiesSo orientation does.from.state
    → IsLineAt before does.from.state → IsLineAt behind item.machine.state
    → KeepsRest (touched_by outside kind orientation before behind) does.from.state.page item.machine.state.page
rest_is_kept law rows old new item kind does outside orientation before behind tells lies one other =
    either (outside && not (kind_may_change_page kind)) (outside && kind_transfers_rows kind)
    (λ is. let holds = both_hold outside (not (kind_may_change_page kind)) is in kept (tells.0 holds.0) (not_true (kind_may_change_page kind) holds.1))
    (λ is. let holds = both_hold outside (kind_transfers_rows kind) is in lines (tells.0 holds.0) holds.1)
  where
    kept : old.bodies ≡ [] → kind_may_change_page kind ≡ false → does.from.state.page ≡ item.machine.state.page
    kept idle keeps =
        outer_step (does.from.state.page ≡ item.machine.state.page) old new item kind does idle
        (λ command is. sym (command_keeps law old new item kind does command is idle keeps))

    lines : old.bodies ≡ [] → kind_transfers_rows kind ≡ true → KeepsRest (lines_between orientation before behind) does.from.state.page item.machine.state.page
    lines idle transfers =
        lines_kept orientation before behind does.from.state item.machine.state lies one other
        (outer_step (KeepsOtherLines does.from.state item.machine.state) old new item kind does idle
        (λ command is. command_keeps_lines law rows old new item kind does command is idle transfers))

    either : (nothing rows : Bool) → (nothing ≡ true → does.from.state.page ≡ item.machine.state.page)
        → (rows ≡ true → KeepsRest (lines_between orientation before behind) does.from.state.page item.machine.state.page)
        → KeepsRest (if nothing then Nothing else if rows then lines_between orientation before behind else Whole) does.from.state.page item.machine.state.page
    either true rows first second = first refl
    either false true first second = second refl
    either false false first second = tt
