-- A command that is carried out whole: what it leaves of the open page, and what could be seen.
use Rattle.std.proofs.Common.{◌≡◌, ◌∙◌, ℕ, List, [], ◌∷◌, Bool, true, false, not, if◌then◌else◌, Option, Some, None, IfSome, IsSome, OnOk, Result, Ok, Err, is_err, ◌++◌, refl, sym, ap, subst, arith}
use Rattle.std.proofs.lemmas.Bool.{false≢true, true≢false}
use Rattle.std.proofs.lemmas.List.{append_assoc}
use Rattle.press_cmd.specs.Token.{Token, Uel}
use Rattle.press_scan.specs.Gives.{Passes}
use Rattle.press_scan.specs.ScannerState.{ScannerState}
use Rattle.press_asm.specs.Written.{written_line}
use Rattle.press_explain.specs.Remarks.{named, remark}
use Rattle.press_cmd.specs.Kinds.{kind_of}
use Rattle.press_page.specs.declared.media.Orientation.{Orientation}
use Rattle.press_table.specs.PageKept.{KeepsOtherLines, kind_may_change_page, kind_transfers_rows}
use Rattle.press_engine.specs.Fold.{run}
use Rattle.press_engine.specs.Machine.{StepResult, macro_levels}
use Rattle.press_engine.specs.Trace.{last_machine, trace_at}
use Rattle.press_engine.specs.declared.machine.Machine.{Machine}
use Rattle.press_engine.specs.declared.view.View.{View}
use Rattle.press_engine.proofs.FoldLaws.{told-run}
use Rattle.press_engine.proofs.StepLaws.{others_keep_the_page, rows_keep_other_lines}
use Rattle.press_trace.specs.Lines.{IsViewOf}
use Rattle.press_trace.specs.Pages.{KeepsRest}
use Rattle.press_trace.specs.Seen.{IsAlike}
use Rattle.press_trace.specs.Tracing.{lines_between, touched_by}
use Rattle.press_trace.specs.declared.seen.Seen.{Seen}
use Rattle.press_trace.specs.declared.touched.Touched.TheVariants.{Nothing, Whole}
use Rattle.press_trace.proofs.StepLemmas.{IsLineAt, LiesSo, lines_kept}
use Rattle.press_sink.specs.Kept.{replied}
use Rattle.press_engine.specs.Engine.{view_of}
use Rattle.press_engine.specs.Engine.{Runs}
use Rattle.press_engine.specs.declared.fault.EngineError.{EngineError}
use Rattle.press_sink.specs.SinkLog.{SheetLog, SinkUse, logs}
use Rattle.press_sink.specs.Sending.{Complete, Output, WentOut, reply_bytes_of}
use Rattle.press_sink.specs.declared.list_replies.ListReplies.{ListReplies}
use Rattle.press_explain.specs.Explained.{Saying, Says, exit_remark}
use Rattle.press_explain.specs.Standing.{CarriesOut, ExplainsExit, ExplainsNext, IsDoneBy}
use Rattle.press_explain.specs.declared.carrying.Done.{Done}

-- what can be seen of a machine, in either of two views that are kept so
pub alike_view : (seen : Seen) (machine : Machine) (one other : View) → IsAlike seen one → IsAlike seen other → IsViewOf machine one → IsViewOf machine other
alike_view seen machine one other first second is = (
  second.fields ∙ ap (λ (view : View). record view { stack = other.stack }) (sym first.fields ∙ is.0),
  second.pushed ∙ sym first.pushed ∙ is.1,
)

-- a command of one item leaves what the item leaves
run-of-one : (command : Token) (machine : Machine) (item : StepResult) → trace_at macro_levels command machine ≡ item ∷ [] → item.machine ≡ (run command machine).machine
run-of-one command machine item one =
    sym (ap (last_machine machine) one) ∙ ap (λ (all : StepResult). all.machine) (told-run command machine)

page_kept : (command : Token) (machine : Machine) → kind_may_change_page (kind_of command) ≡ false
    → machine.state.page ≡ (run command machine).machine.state.page
page_kept command machine keeps =
    let only = others_keep_the_page.keeps command machine keeps in
    sym only.2 ∙ ap (λ (after : Machine). after.state.page) (run-of-one command machine only.0 only.1)

other_lines_kept : (command : Token) (machine : Machine) → kind_transfers_rows (kind_of command) ≡ true
    → KeepsOtherLines machine.state (run command machine).machine.state
other_lines_kept command machine transfers =
    let only = rows_keep_other_lines.keeps command machine transfers in
    subst (λ (after : Machine). KeepsOtherLines machine.state after.state) (run-of-one command machine only.0 only.1) only.2

not_true : (b : Bool) → not b ≡ true → b ≡ false
not_true true is = absurd (true≢false (sym is))
not_true false is = refl

-- what a command of the stream leaves of the page
pub rest_kept : (command : Token) (machine : Machine) (orientation : Orientation) (before behind : Option ℕ)
    → LiesSo orientation machine.state → IsLineAt before machine.state → IsLineAt behind (run command machine).machine.state
    → KeepsRest (touched_by true (kind_of command) orientation before behind) machine.state.page (run command machine).machine.state.page
rest_kept command machine orientation before behind lies one other =
    either (not (kind_may_change_page (kind_of command))) (kind_transfers_rows (kind_of command))
    (λ is. page_kept command machine (not_true (kind_may_change_page (kind_of command)) is))
    (λ is. lines_kept orientation before behind machine.state (run command machine).machine.state lies one other (other_lines_kept command machine is))
  where
    either : (nothing rows : Bool) → (nothing ≡ true → machine.state.page ≡ (run command machine).machine.state.page)
        → (rows ≡ true → KeepsRest (lines_between orientation before behind) machine.state.page (run command machine).machine.state.page)
        → KeepsRest (if nothing then Nothing else if rows then lines_between orientation before behind else Whole) machine.state.page (run command machine).machine.state.page
    either true rows first second = first refl
    either false true first second = second refl
    either false false first second = tt

-- what an engine lets see of its machine
pub seen_view : (given : Option Machine) (machine : Machine) (view : View) → IfSome given (λ machine. view ≡ view_of view.stack machine)
    → IfSome given (λ machine. view.stack.now ≡ machine.state.cursor.stack) → given ≡ Some machine → IsViewOf machine view
seen_view given machine view is pushed here = (
  subst (λ (some : Option Machine). IfSome some (λ machine. view ≡ view_of view.stack machine)) here is,
  subst (λ (some : Option Machine). IfSome some (λ machine. view.stack.now ≡ machine.state.cursor.stack)) here pushed,
)

-- what is said of a command that was carried out
pub says_done : (saying : Saying) (command : Token) (machine : Machine) (done : Done) (was now : View) (text : List ℕ) → IsDoneBy command machine done
    → IsAlike done.was was → IsViewOf (run command machine).machine now → text ≡ saying was now done.change (replied done.replies)
    → Says saying machine (run command machine) text
says_done saying command machine done was now text by alike is said = record {
  was = was;
  now = now;
  opened = by.opened;
  change = done.change;
  was_is = by.was was alike;
  now_is = is;
  page_is = by.page;
  text_is = said ∙ ap (saying was now done.change) by.replies;
}

-- a command was carried out without a fault
pub ran : (old : Option Machine) (command : Token) (result : Result (Unit {0}) EngineError) (new : Option Machine) (sinks : SinkUse)
    → IsSome old → is_err result ≡ false → Runs old command result new sinks
    → (machine : Machine) × (old ≡ Some machine) × (new ≡ Some (run command machine).machine) × WentOut sinks.tag (run command machine).outputs Complete sinks.before sinks.after
ran None command result new sinks running fine runs = absurd (false≢true running)
ran (Some machine) command (Ok done) new sinks running fine (left, went) = (machine, refl, left, went)
ran (Some machine) command (Err why) new sinks running fine runs = absurd (true≢false fine)

-- and these replies were kept
pub kept_replies : (told : SheetLog) (old new : ListReplies) (outputs : List Output) (after : SheetLog) → replied old ≡ []
    → WentOut 0 outputs Complete (logs told (record { replied = Some (replied old); faults = 0 })) (logs after (record { replied = Some (replied new); faults = 0 }))
    → replied new ≡ reply_bytes_of outputs
kept_replies told old new outputs after none went = grind (arith, went.replied, went.goes, none)

-- ---- what is said where all went well

pub ok_so : {X E P Q : Type 0} (answer : Result X E) → (P → Q) → OnOk answer P → OnOk answer Q
ok_so (Ok one) so holds = so holds
ok_so (Err why) so holds = holds

pub exit_said : (at : ℕ) (old new : Option Machine) (done : Done) (was now : View) (before after : List ℕ) → CarriesOut Uel old done new → IsAlike done.was was
    → IfSome new (λ machine. now ≡ view_of now.stack machine) → IfSome new (λ machine. now.stack.now ≡ machine.state.cursor.stack)
    → after ≡ before ++ exit_remark at was now done.change (replied done.replies) → ExplainsExit at old before after
exit_said at old new done was now before after (machine, old_is, new_is, by) alike view pushed text = (
  machine,
  exit_remark at was now done.change (replied done.replies),
  old_is,
  says_done (exit_remark at) Uel machine done was now (exit_remark at was now done.change (replied done.replies)) by alike
      (seen_view new (run Uel machine).machine now view pushed new_is) refl,
  text,
)

pub next_said : (at : ℕ) (held next : ScannerState) (command : Token) (old new : Option Machine) (done : Done) (was now : View) (name line before between after : List ℕ)
    → Passes held command next → CarriesOut command old done new → IsAlike done.was was
    → IfSome new (λ machine. now ≡ view_of now.stack machine) → IfSome new (λ machine. now.stack.now ≡ machine.state.cursor.stack)
    → name ≡ named command → line ≡ written_line command ++ 10 ∷ []
    → between ≡ before ++ remark at name was now done.change (replied done.replies) → after ≡ between ++ line
    → ExplainsNext at held old before true next new after
next_said at held next command old new done was now name line before between after passes (machine, old_is, new_is, by) alike view pushed named_is line_is text more =
    let said = remark at (named command) was now done.change (replied done.replies) in (
      command,
      machine,
      said ++ line,
      passes,
      old_is,
      new_is,
      (
        said,
        says_done (remark at (named command)) command machine done was now said by alike (seen_view new (run command machine).machine now view pushed new_is) refl,
        ap (λ (all : List ℕ). said ++ all) line_is,
      ),
      more ∙ ap (λ (all : List ℕ). all ++ line) (text ∙ ap (λ (one : List ℕ). before ++ remark at one was now done.change (replied done.replies)) named_is)
          ∙ append_assoc before said line,
    )
