use Rattle.std.proofs.Common.{◌∙◌, [], false, arith, sym, ap, subst, reverse}
use Rattle.press_cmd.specs.View.{token}
use Rattle.press_table.specs.declared.effect.Source.TheVariants.{Stream}
use Rattle.press_engine.specs.Engine.{IsOfKind}
use Rattle.press_engine.specs.Machine.{macro_levels}
use Rattle.press_engine.specs.Stepping.{Stepped, step_outer}
use Rattle.press_engine.specs.Trace.{trace_at}
use Rattle.press_engine.proofs.StackLaws.{outer-continuation}
use Rattle.press_engine.proofs.StepLemmas.{step-last, last-kind, steps-to, step-sound}
use Rattle.press_engine.proofs.CommandItems.{taking}
use Rattle.press_engine.proofs.bodies.Bodies.step.Goals as goal

pub invariant_of-self : goal.invariant_of-self
invariant_of-self c =
    step-sound (taking false macro_levels (token c.args.command) c.args.machine.now) [] (reverse c.step_outer.new.activations.items) tt (omega arith) (ap (λ (stepped : Stepped). stepped.activations) c.in-Ok.ensures.steps)

pub returns-in-Ok-clause-steps : goal.returns-in-Ok-clause-steps
returns-in-Ok-clause-steps c =
    let command = token c.args.command in
    let old = c.args.machine.now in
    let steps = c.in-Ok.ensures.steps in
    let last = ap (λ (stepped : Stepped). stepped.item.machine.last) steps ∙ step-last (taking false macro_levels command old) [] in
    let of_kind = subst (IsOfKind c.step_outer.new.self.last) (sym c.kind-kind.ensures) (last-kind Stream command old c.step_outer.new.self.last last) in
    steps-to (trace_at macro_levels command old) (step_outer command old) c.kind-kind.result c.in-Ok.sent c.step_outer.new.self
    (reverse c.step_outer.new.activations.items) (outer-continuation command old) steps of_kind
