use Rattle.std.proofs.Common.{◌≡◌, ◌∙◌, ap}
use Rattle.press_debug.proofs.Over.{begins, goes_further, ends_back, fewer_steps}
use Rattle.press_debug.specs.Steps.{DebuggerState}
use Rattle.press_debug.specs.declared.stepper.Taken.{Taken}
use Rattle.press_debug.specs.declared.stepper.Taken.TheVariants as answers
use Rattle.press_debug.proofs.stepper.Stepper.over.Goals as goal

-- a fault is no step
no_step : (taken : Taken) → taken ≡ answers.Steps → taken ≡ answers.Fault → ⊥
no_step taken steps fault = cc

pub loop-taken-init : goal.loop-taken-init
loop-taken-init c = record {
  before = c.depth-depth.ensures;
  reaches = begins c.args.self.now c.take-taken.new.self c.take-taken.result c.take-taken.ensures.takes;
  failed = λ none.
      let same = c.take-taken.ensures.failed none in
      (c.take-taken.ensures.lost.1 (ap (λ (standing : DebuggerState). standing.job.machine) same ∙ none), same);
}

pub loop-taken-smaller : goal.loop-taken-smaller
loop-taken-smaller c =
    let deeper = c.is_deeper.ensures.deeper c.loop-taken-test.true in
    fewer_steps c.loop-taken.self c.take-taken-in-loop-taken.new.self c.loop-taken.taken c.take-taken-in-loop-taken.result deeper.0 c.take-taken-in-loop-taken.ensures.takes

pub loop-taken-preserved : goal.loop-taken-preserved
loop-taken-preserved c =
    let deeper = c.is_deeper.ensures.deeper c.loop-taken-test.true in
    record {
      before = c.loop-taken.invariant.before;
      reaches =
          goes_further c.args.self.now c.loop-taken.self c.take-taken-in-loop-taken.new.self c.loop-taken.taken c.take-taken-in-loop-taken.result c.depth-depth.result deeper.0
          c.loop-taken.invariant.reaches c.loop-taken.invariant.before deeper.1 c.take-taken-in-loop-taken.ensures.takes c.take-taken-in-loop-taken.ensures.outside;
      failed = λ none. absurd (no_step c.loop-taken.taken deeper.0 (c.loop-taken.invariant.failed none).0);
    }

pub returns-clause-takes : goal.returns-clause-takes
returns-clause-takes c =
    ends_back c.args.self.now c.loop-taken.self c.loop-taken.taken c.depth-depth.result c.loop-taken.invariant.reaches c.loop-taken.invariant.before
    (c.is_deeper.ensures.back c.loop-taken-test.false)
