use Rattle.std.proofs.Common.{◌∙◌, ◌∷◌, ◌-◌, inl, inr, refl, ap, subst, subst₂, slice_set, reverse}
use Rattle.press_table.specs.Memory.{TakesMemory}
use Rattle.press_engine.specs.declared.activation.Activation.{Activation}
use Rattle.press_engine.specs.Stepping.{begun_by, first_effect, finished, LeavesWork}
use Rattle.press_engine.proofs.CommandItems.{taking_in}
use Rattle.press_engine.proofs.EndsLemmas.{steps-inner}
use Rattle.press_engine.proofs.InnerLemmas.{lent-is, inner-taken}
use Rattle.press_engine.proofs.StepLemmas.{goes-memory}
use Rattle.press_engine.proofs.machine.Machine.step_inner.Goals as goal

pub returns-clause-steps : goal.returns-clause-steps
returns-clause-steps c =
    let items = c.args.activations.now.items in
    let lent = c.index_mut-activation.result.now in
    let new = c.take_first.new.self in
    let one = begun_by lent.in_overlay lent.macro_levels c.in_ok-effect.effect new in
    let round = reverse (slice_set items (c.len-innermost.result - 1) c.take_first.new.activation) in
    steps-inner c.finish_step.result c.finish_step.new.self c.args.self.now (reverse c.finish_step.new.activations.items) (reverse items) (finished one round)
    (λ activation command rest outer is.
    let taken = inner-taken items c.len-innermost.result lent (c.len-innermost.ensures ∙ c.args.activations.now.ok.0)
    c.index_mut-activation.ensures.value activation command rest outer is c.take_first.new.activation c.args.self.now new c.in_ok-effect.effect c.in_ok-effect.ensures.takes in
    λ i. finished (taken.0 i) (taken.1 i))
    c.finish_step.ensures.steps

pub returns-clause-memory : goal.returns-clause-memory
returns-clause-memory c stops =
    let (activation, command, rest, outer, is) = c.requires.running in
    let old = c.args.self.now in
    let taken = inner-taken c.args.activations.now.items c.len-innermost.result c.index_mut-activation.result.now
    (c.len-innermost.ensures ∙ c.args.activations.now.ok.0) c.index_mut-activation.ensures.value activation command rest outer is
    c.take_first.new.activation old c.take_first.new.self c.in_ok-effect.effect c.in_ok-effect.ensures.takes in
    elim (c.finish_step.ensures.memory stops) [
      | inl makes ↦ (activation, command, rest, outer, is, inl (taken.2 makes))
      | inr goes ↦ (
        activation,
        command,
        rest,
        outer,
        is,
        goes-memory (taking_in activation command old) (record activation { body = rest } ∷ outer) (subst₂ LeavesWork taken.0 taken.1 goes),
      )
    ]

pub returns-in_err-effect-clause-memory : goal.returns-in_err-effect-clause-memory
returns-in_err-effect-clause-memory c stops =
    let (activation, command, rest, outer, is) = c.requires.running in
    let lent = lent-is c.args.activations.now.items c.len-innermost.result c.index_mut-activation.result.now
    (c.len-innermost.ensures ∙ c.args.activations.now.ok.0) c.index_mut-activation.ensures.value activation command rest outer is in
    let P : Activation → Type 0 = λ one. TakesMemory (first_effect one command c.args.self.now.state) in
    (activation, command, rest, outer, is, inl (subst P lent (c.in_err-effect.ensures.memory refl command rest (ap (λ (one : Activation). one.body) lent))))
