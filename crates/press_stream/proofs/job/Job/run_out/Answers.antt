use Rattle.std.proofs.Common.{[], ◌∙◌, Ok, Err, refl, ap, arith}
use Rattle.press_units.proofs.ExitLemmas.{exit-is}
use Rattle.press_sink.proofs.SendingLemmas.{Took-has_fault_room}
use Rattle.press_stream.specs.declared.fault.JobError.{JobError}
use Rattle.press_stream.proofs.Carries.{same_fault}
use Rattle.press_stream.proofs.Changing.{HandsOut-behind, HandsOut-between}
use Rattle.press_stream.proofs.Going.{CarriesOn-none, CarriesOn-to, taken-fewer, taken-ended}
use Rattle.press_stream.proofs.Faults.{HandsOut-goes, HandsOut-nothing, HandsOut-step, HandsOut-stopped}
use Rattle.press_stream.proofs.Inside.{not_idle}
use Rattle.press_stream.proofs.RunningOut.{ran_inside, one_fewer, no_more}
use Rattle.press_stream.proofs.job.Job.run_out.Goals as goal

pub loop-self-init : goal.loop-self-init
loop-self-init g c = record {
  goes = HandsOut-nothing c.args.self.now c.args.self.now [] c.args.tag _ (CarriesOn-none c.args.self.now c.requires.running);
  fewer = omega arith;
  still = refl;
  has_fault_room = c.requires.has_fault_room;
}

pub returns-in_err-step_on-clause-runs_out : goal.returns-in_err-step_on-clause-runs_out
returns-in_err-step_on-clause-runs_out g c =
    let so_far = c.loop-self.invariant in
    let on = rw c.in_err-step_on.was at c.step_on.ensures in
    let gone = HandsOut-between c.args.self.now c.loop-self.self c.step_on.new.self (Err _) c.args.tag _ _ _ so_far.still so_far.goes on in
    rw (exit-is c.from_residual.ensures.1) (HandsOut-goes c.args.self.now on.is.0 c.step_on.new.self [] [] (Err _) c.args.tag _ _ _ (on.is.1.ended ∙ so_far.still) gone
    (HandsOut-stopped on.is.0 c.step_on.new.self c.args.tag _ _ _ (HandsOut-behind c.loop-self.self c.step_on.new.self (Err _) c.args.tag _ _ on)))

pub returns-in_err-step_on-clause-memory : goal.returns-in_err-step_on-clause-memory
returns-in_err-step_on-clause-memory g c =
    let so_far = c.loop-self.invariant in
    let on = rw c.in_err-step_on.was at c.step_on.ensures in
    let gone = HandsOut-between c.args.self.now c.loop-self.self c.step_on.new.self (Err _) c.args.tag _ _ _ so_far.still so_far.goes on in
    rw (exit-is c.from_residual.ensures.1) (λ e.
    (gone.is.0, gone.is.1, on.is.0, gone.is.2, on.is.3 (ap (λ (fault : JobError). Err fault) (same_fault _ _ _ refl e))))

pub loop-self-preserved : goal.loop-self-preserved
loop-self-preserved g c =
    let on = rw c.in_ok-step_on.was at c.step_on.ensures in
    let inside = on.is.1.inside (not_idle c.is_idle.result _ c.is_idle.ensures.none c.loop-self-test.true) in
    let (kind, item, did, is) = ran_inside on.is.0 c.step_on.new.self _ on.went inside.1 on.is.2 in
    let fewer = taken-fewer on.is.0 c.step_on.new.self did.given did.takes in
    let so_far = c.loop-self.invariant in
    let still = on.is.1.ended ∙ so_far.still in
    let gone = HandsOut-between c.args.self.now c.loop-self.self c.step_on.new.self (Ok _) c.args.tag _ _ _ so_far.still so_far.goes on in
    record {
      goes = HandsOut-goes c.args.self.now on.is.0 c.step_on.new.self [] [] (Ok tt) c.args.tag _ _ _ still gone
          (HandsOut-step on.is.0 c.step_on.new.self c.args.tag c.in_ok-step_on.field-0 _ _
          (CarriesOn-to c.args.self.now on.is.0 [] gone.went gone.is) (HandsOut-behind c.loop-self.self c.step_on.new.self (Ok _) c.args.tag _ _ on));
      fewer = omega (arith, fewer, on.is.1.fewer, so_far.fewer);
      still = taken-ended on.is.0 c.step_on.new.self did.given did.takes ∙ still;
      has_fault_room = Took-has_fault_room c.args.tag on.went _ _ on.took so_far.has_fault_room;
    }

pub loop-self-smaller : goal.loop-self-smaller
loop-self-smaller g c =
    let on = rw c.in_ok-step_on.was at c.step_on.ensures in
    let inside = on.is.1.inside (not_idle c.is_idle.result _ c.is_idle.ensures.none c.loop-self-test.true) in
    let (kind, item, did, is) = ran_inside on.is.0 c.step_on.new.self _ on.went inside.1 on.is.2 in
    omega (
      arith,
      one_fewer on.is.0 c.step_on.new.self item kind inside.1 did,
      no_more c.loop-self.self on.is.0 [] on.is.1.goes inside.0,
    )
