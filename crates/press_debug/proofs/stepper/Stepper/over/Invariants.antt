use Rattle.std.proofs.Common.{◌≡◌, None, IfSome}
use Rattle.press_debug.specs.declared.stepper.Taken.TheVariants.{Fault}
use Rattle.press_debug.proofs.Over.{Reaches, steps_left}
use Rattle.press_debug.proofs.stepper.Stepper.over.Given as goal

-- All states but the last were deeper; and where the job had failed, there is none.
abbrev pub invariant-loop-taken : goal.invariant-loop-taken
invariant-loop-taken l = record {
  before : IfSome l.fn.self.job.machine (λ machine. l.depth ≡ machine.depth);
  reaches : Reaches l.fn.self l.taken l.self;
  failed : l.fn.self.job.machine ≡ None → (l.taken ≡ Fault) × (l.self ≡ l.fn.self);
}

abbrev pub decreases-loop-taken : goal.decreases-loop-taken
decreases-loop-taken l = steps_left l.taken l.self
