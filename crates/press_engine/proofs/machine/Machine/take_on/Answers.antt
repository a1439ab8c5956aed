use Rattle.std.proofs.Common.{◌≡◌, ◌∙◌, ◌++◌, List, [], ◌∷◌, length, Option, refl, sym, ap, subst, arith}
use Rattle.std.proofs.lemmas.Bool.{false≢true}
use Rattle.std.proofs.lemmas.List.{append_assoc}
use Rattle.press_cmd.specs.Token.{Token}
use Rattle.press_table.specs.declared.effect.Effect.{Effect}
use Rattle.press_table.specs.Memory.{TakesMemory}
use Rattle.press_engine.specs.declared.activation.Activation.{Activation}
use Rattle.press_engine.specs.Stepping.{first_effect, TakesFirst}
use Rattle.press_engine.proofs.InnerLemmas.{first-of, none-of, takes-behind}
use Rattle.press_engine.proofs.RunningLaws.{each-then}
use Rattle.press_engine.proofs.machine.Machine.take_on.Goals as goal

pub returns-in_err-effect-clause-memory : goal.returns-in_err-effect-clause-memory
returns-in_err-effect-clause-memory c stops =
    let so_far = c.loop-effect.invariant in
    let (command, rest, is) = first-of c.loop-effect.activation.body so_far.some in
    let P : Activation → Type 0 = λ one. TakesMemory (first_effect one command c.loop-effect.self.state) in (
      so_far.given,
      command,
      rest,
      c.loop-effect.self,
      so_far.was ∙ ap (λ (body : List Token). so_far.given ++ body) is,
      so_far.each,
      subst P so_far.stays (c.in_err-effect.ensures.memory refl command rest is),
    )

pub returns-then-is_some-clause-takes : goal.returns-then-is_some-clause-takes
returns-then-is_some-clause-takes c =
    let so_far = c.loop-effect.invariant in
    let (command, rest, is) = first-of c.loop-effect.activation.body so_far.some in
    takes-behind c.args.activation.now c.loop-effect.activation c.take_first.new.activation c.args.self.now c.loop-effect.self c.take_first.new.self
    so_far.given c.in_ok-effect.effect command rest so_far.was so_far.stays so_far.each is (c.in_ok-effect.ensures.takes command rest is)

pub loop-effect-smaller : goal.loop-effect-smaller
loop-effect-smaller c =
    let (command, rest, is) = first-of c.loop-effect.activation.body c.loop-effect.invariant.some in
    let (takes, left) = c.in_ok-effect.ensures.takes command rest is in
    let fewer = ap (λ (one : Activation). length one.body) left in
    omega (arith, fewer, ap length is)

pub loop-effect-preserved : goal.loop-effect-preserved
loop-effect-preserved c =
    let so_far = c.loop-effect.invariant in
    let new = c.take_first.new.activation in
    let (command, rest, is) = first-of c.loop-effect.activation.body so_far.some in
    let (takes, left) = c.in_ok-effect.ensures.takes command rest is in
    let behind : rest ≡ new.body = sym (ap (λ (one : Activation). one.body) left) in
    let none = none-of c.in_ok-effect.effect (sym c.is_some.ensures ∙ c.if-is_some.false) in
    let P : Option Effect → Type 0 = λ effect. TakesFirst c.loop-effect.activation command c.loop-effect.self effect c.take_first.new.self in
    record {
      given = so_far.given ++ command ∷ [];
      was = grind (arith, append_assoc);
      stays = left ∙ (λ i. record (so_far.stays i) { body = behind i });
      each = each-then so_far.given command c.args.self.now c.loop-effect.self c.take_first.new.self so_far.each (subst P none takes);
      some = λ nothing. absurd (false≢true (sym c.if-is_used_up.false ∙ c.is_used_up.ensures.1 nothing));
    }
