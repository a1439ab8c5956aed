use Rattle.std.proofs.Common.{◌∙◌, Option, IsSome, false, refl, sym, subst, arith}
use Rattle.press_engine.specs.Engine.{machine_of, bodies}
use Rattle.press_engine.specs.declared.machine.Machine.{Machine}
use Rattle.press_stream.specs.Answers.{PassesOn}
use Rattle.press_stream.specs.State.{JobState, job_state}
use Rattle.press_stream.specs.declared.phase.Phase.TheVariants.{Running}
use Rattle.press_stream.proofs.Carries.{DoesStep-next}
use Rattle.press_stream.proofs.Changing.{PassesOn-then, PassesOn-one}
use Rattle.press_stream.proofs.Passing.{PassesOn-none, some_fewer}
use Rattle.press_stream.proofs.carrying.take_on.Goals as goal

pub loop-step-init : goal.loop-step-init
loop-step-init c = record {
  goes = PassesOn-none (job_state c.args.scanner.now c.args.engine.now Running) c.requires.running c.requires.none;
  running = c.requires.running;
  room = c.requires.room;
  phase = c.requires.phase;
}

pub loop-step-preserved-in-Changed : goal.loop-step-preserved-in-Changed
loop-step-preserved-in-Changed c =
    let (command, passes, changed, none) = rw (c.in_ok-carry_plain.was, c.in-Changed.is) at c.carry_plain.ensures.carries in
    let so_far = c.loop-step.invariant in
    let next = c.carry_plain.new in
    let first = job_state c.args.scanner.now c.args.engine.now Running in
    let old = job_state c.loop-step.scanner c.loop-step.engine Running in
    let new = job_state next.scanner next.engine Running in
    record {
      goes = PassesOn-then first old new c.requires.none so_far.goes
          (PassesOn-one old new command refl refl (so_far.goes.idle c.requires.none) none passes changed);
      running = subst (λ (machine : Option Machine). IsSome machine) (sym changed.is) refl;
      room = passes.room ∙ so_far.room;
      phase = so_far.phase;
    }

pub returns-in-Ran-clause-takes : goal.returns-in-Ran-clause-takes
returns-in-Ran-clause-takes c =
    let so_far = c.loop-step.invariant in
    let at = c.loop-step in
    let next = c.carry_plain in
    rw so_far.phase (
      job_state at.scanner at.engine Running,
      so_far.goes,
      DoesStep-next at.scanner next.new.scanner (machine_of at.engine) (machine_of next.new.engine) (bodies at.engine) (bodies next.new.engine) c.in-Ran.step
          (so_far.goes.idle c.requires.none) (rw (c.in_ok-carry_plain.was, c.in-Ran.is) at next.ensures.carries),
    )

pub loop-step-smaller : goal.loop-step-smaller
loop-step-smaller c = grind (arith, some_fewer)

pub loop-step-preserved : goal.loop-step-preserved
loop-step-preserved c =
    let (same, still, none) = rw (c.in_ok-carry_plain.was, c.in-Other.is) at c.carry_plain.ensures.carries in
    let so_far = c.loop-step.invariant in
    let first = job_state c.args.scanner.now c.args.engine.now Running in
    let old = job_state c.loop-step.scanner c.loop-step.engine Running in
    let new = job_state c.pass.new.scanner c.pass.new.engine Running in
    let stays = none ∙ sym (so_far.goes.idle c.requires.none) in
    record {
      goes = PassesOn-then first old new c.requires.none so_far.goes
          (subst (λ (job : JobState). PassesOn job new) (λ i. record { held = same i; machine = still i; bodies = stays i; exited = false })
          c.pass.ensures.passes);
      running = c.pass.ensures.fits.0;
      room = c.pass.ensures.fits.1;
      phase = so_far.phase;
    }
