use Rattle.std.proofs.Common.{◌∙◌, IsSome, Option, length, refl, sym, ap, subst, arith}
use Rattle.press_bits.specs.Page.{Page}
use Rattle.press_engine.specs.declared.machine.Machine.{Machine}
use Rattle.press_engine.specs.Machine.{StepResult}
use Rattle.press_table.specs.Outputs.{all_outputs}
use Rattle.press_engine.proofs.StepLaws.{others_keep_the_page, rows_keep_other_lines}
use Rattle.press_stream.specs.Steps.{DoesStep}
use Rattle.press_stream.proofs.Going.{same_some}
use Rattle.press_trace.specs.declared.tracer.Tracer.{Tracer}
use Rattle.press_trace.specs.Lines.{IsLineOf}
use Rattle.press_trace.specs.Pages.{KeepsRest}
use Rattle.press_trace.specs.Tracing.{IsSound, Shows, TellsOne, place_if, placed_run, told_before, touched_by}
use Rattle.press_trace.specs.declared.touched.Touched.{Touched}
use Rattle.press_trace.proofs.StepLemmas.{fewer_held, kept_now, kept_page, kept_told, lies_so, line_at, place_is, rest_is_kept, step_did}
use Rattle.press_trace.proofs.tracer.Tracer.next_line.Goals as goal
use Rattle.press_trace.proofs.tracer.Tracer.next_line.Goals.{After-touched_by}

pub place_behind-self-requires-clause-fewer : goal.place_behind-self-requires-clause-fewer
place_behind-self-requires-clause-fewer c =
    let did = step_did c.args.self.now.job c.take_step.new.self c.in-Ok-Ran.field-0 c.in-Ok-Ran.step c.in-Ok-Ran.field-0-is c.in-Ok-Ran.ensures.takes in
    omega (arith, fewer_held c.args.self.now.job c.take_step.new.self _ _ did.1, c.held-held.ensures)

-- what the step did
did : (c : After-touched_by) → DoesStep c.args.self.now.job c.in-Ok-Ran.step c.take_step.new.self
did c = step_did c.args.self.now.job c.take_step.new.self c.in-Ok-Ran.field-0 c.in-Ok-Ran.step c.in-Ok-Ran.field-0-is c.in-Ok-Ran.ensures.takes

-- the tracer behind it, before its line is told
abbrev taken : (c : After-touched_by) → Tracer
taken c = record c.args.self.now { job = c.take_step.new.self; place = c.place_behind-self.result }

-- it shows the machine behind the step, and what the step left of the page
shows : (c : After-touched_by) → Shows (taken c) c.touched_by.result (did c).0
shows c =
    let old = c.args.self.now in
    let kind = c.in-Ok-Ran.step.kind in
    let machine = (did c).0 in
    let does = (did c).1 in
    let item : StepResult = record { machine = machine; outputs = all_outputs c.in-Ok-Ran.step.sent.items } in
    let outside = c.is_idle-outside.result in
    let one = c.row_line-before.result in
    let other = c.row_line-behind.result in
    let orientation = c.view-view.result.environment.page_setup.orientation in
    let rest : KeepsRest (touched_by outside kind orientation one other) does.from.state.page machine.state.page =
    rest_is_kept others_keep_the_page rows_keep_other_lines old.job c.take_step.new.self item kind does outside orientation one other c.is_idle-outside.ensures.none
    (lies_so c.view-view.result old.job.machine does.from c.view-view.ensures.view does.starts)
    (line_at one c.view-view.result old.job.machine does.from c.row_line-before.ensures.line c.view-view.ensures.view does.starts)
    (line_at other c.view.result c.take_step.new.self.machine machine c.row_line-behind.ensures.line c.view.ensures.view does.ends) in record {
      running = does.ends;
      keeps = subst (λ (touched : Touched). KeepsRest touched old.page machine.state.page) (sym c.touched_by.ensures)
          (subst (λ (page : Option Page). KeepsRest (touched_by outside kind orientation one other) page machine.state.page) (sym (c.requires.shown does.from does.starts)) rest);
    }

pub tell-requires : goal.tell-requires
tell-requires c =
    let s = (goal.at.tell-requires c).After-touched_by in
    ((did s).0, shows s)

pub returns-in_ok-line-in-Ok-Ran-clause-tells : goal.returns-in_ok-line-in-Ok-Ran-clause-tells
returns-in_ok-line-in-Ok-Ran-clause-tells c =
    let s = (goal.at.returns-in_ok-line-in-Ok-Ran-clause-tells c).After-touched_by in
    let old = c.args.self.now in
    let step = c.in-Ok-Ran.step in
    let outside = c.is_idle-outside.result in
    let machine = (did s).0 in
    let does = (did s).1 in
    let item : StepResult = record { machine = machine; outputs = all_outputs step.sent.items } in
    let new : Tracer = record (taken s) { before = c.tell.new.self.before; page = c.tell.new.self.page } in
    let tells : TellsOne old c.in_ok-line-in-Ok-Ran.line.items new = record {
      one = record {
        item = item;
        kind = step.kind;
        does = does;
        place =
            c.place_behind-self.ensures
            ∙ ap (λ held. place_if outside old.length held (length c.take_step.new.self.held.bytes) old.place) c.held-held.ensures
            ∙ place_is old.job c.take_step.new.self item step.kind does outside old.length old.place c.is_idle-outside.ensures.none;
        still = refl;
        told = kept_told machine c.tell.new.self.before c.tell.new.self.page (c.in_ok-line-in-Ok-Ran.ensures.kept machine (shows s));
      };
      is_line =
          subst (λ sent. IsLineOf 1 (told_before old) (placed_run c.place_behind-self.result machine (all_outputs sent)) c.in_ok-line-in-Ok-Ran.line.items)
          c.deref.ensures.value
          (c.in_ok-line-in-Ok-Ran.ensures.line machine (shows s) (told_before old) c.requires.kept);
    } in
    subst (λ (now : Tracer). TellsOne old c.in_ok-line-in-Ok-Ran.line.items now) (sym c.in_ok-line-in-Ok-Ran.ensures.others) tells

pub returns-in_ok-line-in-Ok-Ran-clause-sound : goal.returns-in_ok-line-in-Ok-Ran-clause-sound
returns-in_ok-line-in-Ok-Ran-clause-sound c =
    let s = (goal.at.returns-in_ok-line-in-Ok-Ran-clause-sound c).After-touched_by in
    let job = c.take_step.new.self in
    let machine = (did s).0 in
    let does = (did s).1 in
    let item : StepResult = record { machine = machine; outputs = all_outputs c.in-Ok-Ran.step.sent.items } in
    let new : Tracer = record (taken s) { before = c.tell.new.self.before; page = c.tell.new.self.page } in
    let keeps = c.in_ok-line-in-Ok-Ran.ensures.kept machine (shows s) in
    let sound : IsSound new = record {
      running = subst IsSome (sym does.ends) refl;
      within = omega (arith, fewer_held c.args.self.now.job job item c.in-Ok-Ran.step.kind does, c.requires.within);
      shown = λ now is.
          kept_page machine c.tell.new.self.before c.tell.new.self.page keeps
          ∙ ap (λ (one : Machine). one.state.page) (same_some job.machine machine now does.ends is);
      kept = kept_now machine c.tell.new.self.before c.tell.new.self.page job.machine does.ends keeps;
    } in
    subst IsSound (sym c.in_ok-line-in-Ok-Ran.ensures.others) sound
