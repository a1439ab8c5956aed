use Rattle.std.proofs.Common.{◌≡◌, ◌+◌, ◌-◌, Some, None, IsSome, [], refl, sym, subst, inl, arith}
use Rattle.std.specs.Fn.{FnReturnsAt}
use Rattle.press_stream.specs.State.{IsOver}
use Rattle.press_debug.specs.declared.debugger.Stop.TheVariants as stops
use Rattle.press_debug.specs.declared.watch.Watch.{Watch}
use Rattle.press_debug.specs.Steps.{DebuggerState, Advances}
use Rattle.press_debug.specs.Stops.{StateMeets}
use Rattle.press_debug.proofs.Going.{ContinuesTo-then, ContinuesTo-stop, ContinuesTo-ended, ContinuesTo-limit, StateMeets-kept}
use Rattle.press_debug.proofs.Taking.{at_machine, where_running}
use Rattle.press_debug.proofs.debugger.Debugger.go.Goals as goal

pub returns-in-Nothing-clause-goes : goal.returns-in-Nothing-clause-goes
returns-in-Nothing-clause-goes g c =
    let takes = c.in-Nothing.ensures.takes in
    c.loop-step.invariant.rest stops.Ended c.take.new.self
    (ContinuesTo-ended (FnReturnsAt g.F.Fn c.args.self.now.watch.test) c.args.self.now.breaks c.loop-step.self.stepper c.take.new.self (c.args.max - c.loop-step._step)
    (subst (λ (standing : DebuggerState). IsOver standing.job) (sym takes.1) takes.0) (c.in-Nothing.ensures.none refl))

pub returns-in-Some-clause-goes : goal.returns-in-Some-clause-goes
returns-in-Some-clause-goes g c =
    let takes = c.in-Steps.ensures.takes in
    let watches = FnReturnsAt g.F.Fn c.args.self.now.watch.test in
    let table = c.args.self.now.breaks in
    let less = c.args.max - (c.loop-step._step + 1) in
    let up : c.args.max - c.loop-step._step ≡ less + 1 = omega (arith, c.loop-step-test.true) in
    let number = Some c.in-Some.number in
    let here =
    at_machine c.take.new.self.job.machine
    (λ machine. StateMeets (FnReturnsAt g.F.Fn c.loop-step.self.watch.test) c.loop-step.self.breaks number machine) takes.0.machine
    takes.1.ends c.in-Some.ensures in
    let meets =
    StateMeets-kept (λ (watch : Watch _). FnReturnsAt g.F.Fn watch.test) c.loop-step.self.watch c.args.self.now.watch
    c.loop-step.self.breaks table number takes.0.machine c.loop-step.invariant.kept.1 c.loop-step.invariant.kept.0 here in
    c.loop-step.invariant.rest (stops.AtBreak c.in-Some.number) c.take.new.self
    (ContinuesTo-stop watches table c.loop-step.self.stepper c.take.new.self takes.0 (c.args.max - c.loop-step._step) less c.in-Some.number up takes.1 meets)

pub loop-step-preserved : goal.loop-step-preserved
loop-step-preserved g c =
    let takes = c.in-Steps.ensures.takes in
    let watches = FnReturnsAt g.F.Fn c.args.self.now.watch.test in
    let table = c.args.self.now.breaks in
    let less = c.args.max - (c.loop-step._step + 1) in
    let up : c.args.max - c.loop-step._step ≡ less + 1 = omega (arith, c.loop-step-test.true) in
    let here =
    at_machine c.take.new.self.job.machine
    (λ machine. StateMeets (FnReturnsAt g.F.Fn c.loop-step.self.watch.test) c.loop-step.self.breaks None machine) takes.0.machine
    takes.1.ends c.in_default.ensures in
    let passes =
    StateMeets-kept (λ (watch : Watch _). FnReturnsAt g.F.Fn watch.test) c.loop-step.self.watch c.args.self.now.watch
    c.loop-step.self.breaks table None takes.0.machine c.loop-step.invariant.kept.1 c.loop-step.invariant.kept.0 here in
    record {
      running = subst IsSome (sym takes.1.ends) refl;
      callable = c.loop-step.invariant.callable;
      kept = c.loop-step.invariant.kept;
      rest = λ stop new goes.
          c.loop-step.invariant.rest stop new
          (ContinuesTo-then watches table c.loop-step.self.stepper c.take.new.self new takes.0 (c.args.max - c.loop-step._step) less stop up takes.1 passes goes);
    }

pub returns-then-ended-clause-goes : goal.returns-then-ended-clause-goes
returns-then-ended-clause-goes g c =
    let now = c.loop-step.self.stepper in
    c.loop-step.invariant.rest stops.Ended now
    (ContinuesTo-ended (FnReturnsAt g.F.Fn c.args.self.now.watch.test) c.args.self.now.breaks now now (c.args.max - c.loop-step._step)
    (c.ended.ensures.over.0 c.if-ended.true) (where_running now.job.machine (Advances now [] now) c.loop-step.invariant.running c.ended.ensures.none))

pub returns-else-ended-clause-goes : goal.returns-else-ended-clause-goes
returns-else-ended-clause-goes g c =
    let now = c.loop-step.self.stepper in
    let none : 0 ≡ c.args.max - c.loop-step._step = omega (arith, c.loop-step-test.false) in
    c.loop-step.invariant.rest stops.LimitReached now
    (ContinuesTo-limit (FnReturnsAt g.F.Fn c.args.self.now.watch.test) c.args.self.now.breaks now (c.args.max - c.loop-step._step)
    none (c.ended.ensures.left c.if-ended.false) (where_running now.job.machine (Advances now [] now) c.loop-step.invariant.running c.ended.ensures.none))

pub returns-in-Fault-clause-goes : goal.returns-in-Fault-clause-goes
returns-in-Fault-clause-goes g c =
    let takes = c.in-Fault.ensures.takes in
    c.loop-step.invariant.rest stops.Failed c.take.new.self (takes.0, inl takes.1)
