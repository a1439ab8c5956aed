use Rattle.std.proofs.Common.{◌∙◌, ◌∷◌, inl, refl, reverse}
use Rattle.press_engine.proofs.InnerLemmas.{runs-through, inner-goes, inner-memory}
use Rattle.press_engine.proofs.machine.Machine.run_inner.Goals as goal

pub returns-clause-runs : goal.returns-clause-runs
returns-clause-runs c =
    let (activation, command, rest, outer, is) = c.requires.running in
    runs-through c.args.activations.now.items c.len-innermost.result c.index_mut-activation.result.now (c.len-innermost.ensures ∙ c.args.activations.now.ok.0)
    c.index_mut-activation.ensures.value activation command rest outer is c.take_on.new.activation c.args.self.now c.take_on.new.self c.finish_step.new.self
    c.in_ok-effect.effect c.finish_step.result (reverse c.finish_step.new.activations.items) c.in_ok-effect.ensures.takes c.finish_step.ensures.steps

pub returns-in_err-effect-clause-memory : goal.returns-in_err-effect-clause-memory
returns-in_err-effect-clause-memory c stops =
    let (activation, command, rest, outer, is) = c.requires.running in
    let lent = c.index_mut-activation.result.now in
    let (given, last, more, between, was, each, takes) = c.in_err-effect.ensures.memory refl in (
      record lent { body = last ∷ more } ∷ outer,
      between,
      inner-goes c.args.activations.now.items c.len-innermost.result lent (c.len-innermost.ensures ∙ c.args.activations.now.ok.0)
          c.index_mut-activation.ensures.value activation command rest outer is given last more c.args.self.now between was each,
      (lent, last, more, outer, refl, inl takes),
    )

pub returns-clause-memory : goal.returns-clause-memory
returns-clause-memory c stops =
    let (activation, command, rest, outer, is) = c.requires.running in
    let items = c.args.activations.now.items in
    let lent = c.index_mut-activation.result.now in
    let counted = c.len-innermost.ensures ∙ c.args.activations.now.ok.0 in
    let took = c.in_ok-effect.ensures.takes in
    let new = c.take_on.new.self in (
      record lent { body = took.command ∷ took.rest } ∷ outer,
      took.between,
      inner-goes items c.len-innermost.result lent counted c.index_mut-activation.ensures.value activation command rest outer is
          took.given took.command took.rest c.args.self.now took.between took.was took.each,
      (
        lent,
        took.command,
        took.rest,
        outer,
        refl,
        inner-memory items c.len-innermost.result lent counted c.index_mut-activation.ensures.value activation command rest outer is
            c.take_on.new.activation c.args.self.now new c.in_ok-effect.effect took (c.finish_step.ensures.memory stops),
      ),
    )
