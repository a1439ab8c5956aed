use Rattle.std.proofs.Common.{◌≡◌, ◌∙◌, Option, Some, IfSome, ap, subst, arith}
use Rattle.press_bits.specs.Page.{Page}
use Rattle.press_engine.specs.declared.machine.Machine.{Machine}
use Rattle.press_engine.specs.Engine.{view_of}
use Rattle.press_table.specs.Outputs.{all_outputs}
use Rattle.press_stream.specs.State.{JobState}
use Rattle.press_trace.specs.declared.place.Place.{Place}
use Rattle.press_trace.specs.declared.seen.Seen.{Seen}
use Rattle.press_trace.specs.declared.tracer.Tracer.{Tracer}
use Rattle.press_trace.specs.Lines.{IsViewOf, run_members, line_text}
use Rattle.press_trace.specs.Pages.{opened_data, change_data}
use Rattle.press_trace.specs.Seen.{IsAlikeIf}
use Rattle.press_trace.proofs.StepLemmas.{is_line, keeps_now}
use Rattle.press_trace.proofs.tracer.Tracer.tell.Goals as goal

pub returns-clause-line : goal.returns-clause-line
returns-clause-line c = λ machine shows before keeps.
    let old = c.args.self.now in
    let stays = c.in_ok-told.ensures.others in
    let running : c.of.new.job.machine ≡ Some machine = ap (λ (job : JobState). job.machine) (c.in_ok-went.ensures.job ∙ ap (λ (tracer : Tracer). tracer.job) stays) ∙ shows.running in
    let view = c.view-view.result in
    let is : IsViewOf machine view = (
      subst (λ (some : Option Machine). IfSome some (λ machine. view ≡ view_of view.stack machine)) running c.view-view.ensures.view,
      subst (λ (some : Option Machine). IfSome some (λ machine. view.stack.now ≡ machine.state.cursor.stack)) running c.view-view.ensures.stack,
    ) in
    let line = c.in_ok-line.ensures in
    let alike = subst (λ (kept : Option Seen). IsAlikeIf kept line.0) (ap (λ (tracer : Tracer). tracer.before) stays) line.1 in
    is_line c.args.steps before old.place machine (all_outputs c.args.sent.now) old.before old.page line.0 view
    (opened_data c.in_ok-told.told.opened c.page_told.new.self.page) (change_data c.in_ok-told.told.change c.page_told.new.self.page) c.in_ok-went.went c.in_ok-line.line.items keeps
    alike is
    (c.in_ok-told.ensures.told machine shows) c.in_ok-went.ensures.went
    (line.2
    ∙ ap (λ (page : Option Page). line_text (run_members c.args.steps c.page_told.new.self.place c.in_ok-went.went.sheets c.in_ok-went.went.replies.items line.0 view
    (opened_data c.in_ok-told.told.opened page) (change_data c.in_ok-told.told.change page))) c.as_ref.ensures.value
    ∙ ap (λ (place : Place).
    line_text (run_members c.args.steps place c.in_ok-went.went.sheets c.in_ok-went.went.replies.items line.0 view
    (opened_data c.in_ok-told.told.opened c.page_told.new.self.page) (change_data c.in_ok-told.told.change c.page_told.new.self.page)))
    (ap (λ (tracer : Tracer). tracer.place) stays))

pub returns-clause-kept : goal.returns-clause-kept
returns-clause-kept c = grind (arith, keeps_now)
