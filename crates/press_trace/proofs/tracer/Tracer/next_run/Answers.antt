use Rattle.std.proofs.Common.{◌≡◌, ◌∙◌, IsSome, ◌-◌, ℕ, [], length, suc, refl, sym, ap, subst, arith}
use Rattle.press_engine.specs.declared.machine.Machine.{Machine}
use Rattle.press_stream.specs.Steps.{PassesRun, passed_each}
use Rattle.press_stream.proofs.Going.{same_some}
use Rattle.press_trace.specs.declared.touched.Touched.TheVariants.{Nothing}
use Rattle.press_trace.specs.declared.tracer.Tracer.{Tracer}
use Rattle.press_trace.specs.Lines.{IsLineOf}
use Rattle.press_trace.specs.Places.{from_on}
use Rattle.press_trace.specs.Tracing.{IsSound, Shows, TellsRun, placed_run, told_before}
use Rattle.press_trace.proofs.Chains.{each-fewer, some_run, state-stays}
use Rattle.press_trace.proofs.StepLemmas.{kept_now, kept_page, kept_told}
use Rattle.press_trace.proofs.tracer.Tracer.next_run.Goals as goal
use Rattle.press_trace.proofs.tracer.Tracer.next_run.Goals.{After-place_behind-self}

pub place_behind-self-requires-clause-fewer : goal.place_behind-self-requires-clause-fewer
place_behind-self-requires-clause-fewer c = grind (arith, some_run, each-fewer)

-- the run that was taken
ran : (c : After-place_behind-self) → (more : ℕ) × (c.pass-steps.result ≡ suc more) × PassesRun c.args.self.now.job (suc more) c.pass-steps.new.self
ran c = some_run c.args.self.now.job c.pass-steps.result c.pass-steps.new.self c.if-steps-eq0.false c.pass-steps.ensures

-- the tracer behind it, before its line is told
abbrev taken : (c : After-place_behind-self) → Tracer
taken c = record c.args.self.now { job = c.pass-steps.new.self; place = c.place_behind-self.result }

abbrev machine_behind : (c : After-place_behind-self) → Machine
machine_behind c = passed_each (ran c).2.given (ran c).2.from

shows : (c : After-place_behind-self) → Shows (taken c) Nothing (machine_behind c)
shows c = record {
  running = (ran c).2.ends;
  keeps =
      c.requires.shown (ran c).2.from (ran c).2.starts
      ∙ ap (λ state. state.page) (sym (state-stays (ran c).2.given (ran c).2.from));
}

pub tell-requires : goal.tell-requires
tell-requires c =
    let s = (goal.at.tell-requires c).After-place_behind-self in
    (machine_behind s, shows s)

pub returns-clause-tells : goal.returns-clause-tells
returns-clause-tells c =
    let s = (goal.at.returns-clause-tells c).After-place_behind-self in
    let old = c.args.self.now in
    let machine = machine_behind s in
    let line = c.in_ok-tell.field-0.items in
    let new : Tracer = record (taken s) { before = c.tell.new.self.before; page = c.tell.new.self.page } in
    let tells : TellsRun old line new = record {
      more = (ran s).0;
      passes = (ran s).2;
      place = c.place_behind-self.ensures ∙ ap (λ held. from_on (old.length - held) (held - length c.pass-steps.new.self.held.bytes)) c.held-held.ensures;
      still = refl;
      told = kept_told machine c.tell.new.self.before c.tell.new.self.page (c.in_ok-tell.ensures.kept machine (shows s));
      machine = machine;
      ends = (ran s).2.ends;
      is_line =
          subst (λ steps. IsLineOf steps (told_before old) (placed_run c.place_behind-self.result machine []) line) (ran s).1
          (c.in_ok-tell.ensures.line machine (shows s) (told_before old) c.requires.kept);
    } in
    subst (λ (now : Tracer). TellsRun old line now) (sym c.in_ok-tell.ensures.others) tells

pub returns-clause-sound : goal.returns-clause-sound
returns-clause-sound c =
    let s = (goal.at.returns-clause-sound c).After-place_behind-self in
    let job = c.pass-steps.new.self in
    let machine = machine_behind s in
    let passes = (ran s).2 in
    let new : Tracer = record (taken s) { before = c.tell.new.self.before; page = c.tell.new.self.page } in
    let keeps = c.in_ok-tell.ensures.kept machine (shows s) in
    let sound : IsSound new = record {
      running = subst IsSome (sym passes.ends) refl;
      within = omega (arith, each-fewer passes.given c.args.self.now.job.held job.held passes.each, c.requires.within);
      shown = λ now is.
          kept_page machine c.tell.new.self.before c.tell.new.self.page keeps
          ∙ ap (λ (one : Machine). one.state.page) (same_some job.machine machine now passes.ends is);
      kept = kept_now machine c.tell.new.self.before c.tell.new.self.page job.machine passes.ends keeps;
    } in
    subst IsSound (sym c.in_ok-tell.ensures.others) sound
