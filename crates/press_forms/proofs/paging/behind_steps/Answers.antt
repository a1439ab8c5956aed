use Rattle.std.proofs.Common.{◌≡◌, ◌≤◌, ℕ, subst, sym, arith}
use Rattle.press_debug.specs.Steps.{DebuggerState}
use Rattle.press_forms.specs.Paging.{StandsAt}
use Rattle.press_forms.proofs.PagingLemmas.{StandsBehindSo, begins_read, goes_read, stands_at, stands_at_end}
use Rattle.press_forms.proofs.paging.behind_steps.Goals as goal

pub loop-taken-init : goal.loop-taken-init
loop-taken-init g c = begins_read c.places.ensures _ _ c.in_ok-stepper.stepper c.in_ok-stepper.ensures.stream

pub loop-taken-preserved : goal.loop-taken-preserved
loop-taken-preserved g c =
    let takes = c.in-Steps.ensures.takes in
    goes_read c.places.ensures _ _ c.loop-taken.taken takes.0 c.loop-taken.stepper c.take.new.self c.loop-taken.invariant takes.1

pub returns-in-Nothing-clause-stands : goal.returns-in-Nothing-clause-stands
returns-in-Nothing-clause-stands g c =
    let so = c.loop-taken.invariant in
    let takes = c.in-Nothing.ensures.takes in
    let few : c.loop-taken.taken ≤ c.args.steps = omega (arith, c.loop-taken-test.true) in (
      so.bytes,
      so.read,
      subst (λ (now : DebuggerState). StandsAt so.bytes c.args.steps c.loop-taken.taken now) (sym takes.1)
          (stands_at_end c.places.ensures so.bytes c.loop-taken.taken c.args.steps c.loop-taken.stepper few so.behind takes.0),
    )

pub returns-clause-stands : goal.returns-clause-stands
returns-clause-stands g c =
    let so = c.loop-taken.invariant in
    let all : c.loop-taken.taken ≡ c.args.steps = omega (arith, c.loop-taken-test.false, c.loop-taken.auto.taken-end) in (
      so.bytes,
      so.read,
      stands_at so.bytes c.args.steps c.loop-taken.stepper
          (subst (λ (count : ℕ). StandsBehindSo so.bytes count c.loop-taken.stepper) all so.behind),
    )
