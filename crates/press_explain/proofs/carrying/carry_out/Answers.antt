use Rattle.std.proofs.Common.{◌≡◌, ◌∙◌, Option, Some, IfSome, true, option_map, Bor, sym, ap, subst}
use Rattle.press_bits.specs.Page.{Page}
use Rattle.press_cmd.specs.Kinds.{kind_of}
use Rattle.press_cmd.specs.View.{token}
use Rattle.press_cmd.specs.declared.variant.Kind.{Kind}
use Rattle.press_engine.specs.Engine.{machine_of}
use Rattle.press_engine.specs.Fold.{run}
use Rattle.press_engine.specs.declared.machine.Machine.{Machine}
use Rattle.serde_json.specs.Data.{Data}
use Rattle.press_sink.specs.Kept.{replied}
use Rattle.press_sink.specs.Sending.{Complete, WentOut}
use Rattle.press_sink.specs.SinkLog.{SinkLog, logs, unlisted_log}
use Rattle.press_sink.specs.declared.list_replies.ListReplies.{ListReplies}
use Rattle.press_canvas.specs.declared.canvas.Canvas.{Canvas}
use Rattle.press_trace.specs.Pages.{IsPageTold, KeepsRest, LiesIn, change_data, opened_data}
use Rattle.press_trace.specs.Tracing.{touched_by}
use Rattle.press_trace.specs.declared.touched.Touched.{Touched}
use Rattle.press_trace.proofs.StepLemmas.{lies_so, line_at}
use Rattle.press_explain.proofs.CarryLemmas.{alike_view, kept_replies, ran, rest_kept, seen_view}
use Rattle.press_explain.proofs.carrying.carry_out.Goals as goal
use Rattle.press_explain.proofs.carrying.carry_out.Goals.{After-page}

-- the machine before, what it left, and what went out
abbrev sinks : ListReplies → SinkLog
sinks replies = logs (unlisted_log 0) (record { replied = Some (replied replies); faults = 0 })

did : (c : After-page) → (machine : Machine) × (machine_of c.args.engine.now ≡ Some machine)
    × (machine_of c.run_command.new.self ≡ Some (run (token c.args.command) machine).machine)
    × WentOut 0 (run (token c.args.command) machine).outputs Complete (sinks c.new-replies.result) (sinks c.run_command.new.replies)
did c = ran (machine_of c.args.engine.now) (token c.args.command) c.run_command.result (machine_of c.run_command.new.self) _ c.requires.running (sym c.is_err.ensures.value ∙ c.if-is_err.false) c.run_command.ensures.runs

-- the page behind it
behind_is : (c : After-page) → option_map (λ page. page.now) c.page.result ≡ (run (token c.args.command) (did c).0).machine.state.page
behind_is c = subst (λ (some : Option Machine). IfSome some (λ machine. option_map (λ page. page.now) c.page.result ≡ machine.state.page)) (did c).2 c.page.ensures

pub told_page-requires : goal.told_page-requires
told_page-requires c =
    let machine = (did c).0 in
    let command = token c.args.command in
    let after = (run command machine).machine in
    let one = c.row_line-before.result in
    let other = c.row_line-behind.result in
    let orientation = c.view-view.result.environment.page_setup.orientation in
    let rest : KeepsRest (touched_by true (kind_of command) orientation one other) machine.state.page after.state.page =
    rest_kept command machine orientation one other
    (lies_so c.view-view.result (machine_of c.args.engine.now) machine c.view-view.ensures.view (did c).1)
    (line_at one c.view-view.result (machine_of c.args.engine.now) machine c.row_line-before.ensures.line c.view-view.ensures.view (did c).1)
    (line_at other c.view.result (machine_of c.run_command.new.self) after c.row_line-behind.ensures.line c.view.ensures.view (did c).2) in
    subst (λ (touched : Touched). KeepsRest touched c.take.result (option_map (λ page. page.now) c.page.result))
    (ap (λ (kind : Kind). touched_by true kind orientation one other) (sym c.kind-kind.ensures) ∙ sym c.touched_by-touched.ensures)
    (subst (λ (page : Option Page). KeepsRest (touched_by true (kind_of command) orientation one other) page (option_map (λ page. page.now) c.page.result))
    (sym (c.take.ensures.value ∙ c.requires.shown machine (did c).1))
    (subst (λ (page : Option Page). KeepsRest (touched_by true (kind_of command) orientation one other) machine.state.page page) (sym (behind_is c)) rest))

-- the same page, asked for again
again : (given : Option Machine) (machine : Machine) (page : Option (Bor Canvas)) → given ≡ Some machine
    → IfSome given (λ machine. option_map (λ page. page.now) page ≡ machine.state.page) → option_map (λ page. page.now) page ≡ machine.state.page
again given machine page is has = subst (λ (some : Option Machine). IfSome some (λ machine. option_map (λ page. page.now) page ≡ machine.state.page)) is has

pub boxed-change-requires : goal.boxed-change-requires
boxed-change-requires c =
    let s = (goal.at.boxed-change-requires c).After-page in
    subst (λ (page : Option Page). LiesIn c.in_ok-now.told.change page)
    (behind_is s ∙ sym (again (machine_of c.run_command.new.self) (run (token c.args.command) (did s).0).machine c.page-2.result (did s).2 c.page-2.ensures)) c.in_ok-now.ensures.lies

pub returns-clause-carries : goal.returns-clause-carries
returns-clause-carries c =
    let s = (goal.at.returns-clause-carries c).After-page in
    let machine = (did s).0 in
    let after = (run (token c.args.command) machine).machine in
    let opened = c.in_ok-now.told.opened in
    let change = c.in_ok-now.told.change in
    let told : IsPageTold machine.state.page after.state.page (opened_data opened after.state.page) (change_data change after.state.page) =
    subst (λ (page : Option Page). IsPageTold machine.state.page page (opened_data opened page) (change_data change page)) (behind_is s)
    (subst (λ (before : Option Page). IsPageTold before (option_map (λ page. page.now) c.page.result) (opened_data opened (option_map (λ page. page.now) c.page.result))
    (change_data change (option_map (λ page. page.now) c.page.result))) (c.take.ensures.value ∙ c.requires.shown machine (did s).1) c.in_ok-now.ensures.told) in
    let same : change_data c.boxed-change.result after.state.page ≡ change_data change after.state.page =
    subst (λ (page : Option Page). change_data c.boxed-change.result page ≡ change_data change page) (again (machine_of c.run_command.new.self) after c.page-2.result (did s).2 c.page-2.ensures) c.boxed-change.ensures.same in (
      machine,
      (did s).1,
      (did s).2,
      record {
        was = λ view alike.
            alike_view c.in_ok-was.was' machine c.view-view.result view c.in_ok-was.ensures alike
            (seen_view (machine_of c.args.engine.now) machine c.view-view.result c.view-view.ensures.view c.view-view.ensures.stack (did s).1);
        opened = opened;
        page = subst (λ (one : Option Data). IsPageTold machine.state.page after.state.page (opened_data opened after.state.page) one) (sym same) told;
        replies = kept_replies (unlisted_log 0) c.new-replies.result c.run_command.new.replies (run (token c.args.command) machine).outputs (unlisted_log 0) c.new-replies.ensures (did s).3;
      },
    )
