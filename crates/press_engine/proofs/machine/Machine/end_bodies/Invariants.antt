use Rattle.std.proofs.Common.{◌≡◌, length, reverse}
use Rattle.press_engine.specs.Stack.{EndsOverlay}
use Rattle.press_engine.specs.Stepping.{unwind}
use Rattle.press_engine.specs.Stepping.{run_of}
use Rattle.press_engine.proofs.machine.Machine.end_bodies.Given as goal

-- Where the bodies that are left unwind from what went out so far, all of them unwind from what had gone out at first. An overlay that
-- ends among those that are left ends among all.
abbrev pub invariant-loop-alloc : goal.invariant-loop-alloc
invariant-loop-alloc l = record {
  ends : unwind (reverse l.activations.items) (run_of l.self l.out.items) ≡ unwind (reverse l.fn.activations.items) (run_of l.fn.self l.fn.out.items);
  overlay : EndsOverlay (reverse l.activations.items) → EndsOverlay (reverse l.fn.activations.items);
}

abbrev pub decreases-loop-alloc : goal.decreases-loop-alloc
decreases-loop-alloc l = length l.activations.items
