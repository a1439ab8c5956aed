use Rattle.std.proofs.Common.{◌∙◌, sym, length, slice_get, drop, ap, refl, arith, rules}
use Rattle.press_cmd.specs.Records.{encoded}
use Rattle.press_cmd.specs.RecordsOnce.{the-commands}
use Rattle.press_cmd.proofs.RecordLemmas.{behind-first}
use Rattle.press_cmd.proofs.body.Body.next.Goals as goal

pub overflow_add-self : goal.overflow_add-self
overflow_add-self c =
    let behind = behind-first _ _ c.self.inside.left c.self.inside.within _ (c.from.ensures.from ∙ ap (λ all. drop c.self.inside.place (encoded all)) c.deref.ensures) _ c.first_count-count.ensures in
    omega (arith, behind.within, c.from.ensures.few, ap (λ all. length (encoded all)) c.deref.ensures)

pub invariant_of-self-inside : goal.invariant_of-self-inside
invariant_of-self-inside c =
    let behind = behind-first _ _ c.self.inside.left c.self.inside.within _ (c.from.ensures.from ∙ ap (λ all. drop c.self.inside.place (encoded all)) c.deref.ensures) _ c.first_count-count.ensures in
    (behind.within, (record { commands = _; spelled = behind.spelled; sound = behind.sound }, tt))

pub first_command-requires-clause-count : goal.first_command-requires-clause-count
first_command-requires-clause-count c records =
    let same = c.from.ensures.from ∙ ap (λ all. drop c.self.inside.place (encoded all)) (c.deref.ensures ∙ sym c.deref-2.ensures) ∙ sym c.from-2.ensures.from in
    c.first_count-count.ensures (record { commands = records.commands; spelled = same ∙ records.spelled; sound = records.sound })

pub returns : goal.returns
returns c =
    let left = c.self.inside.left in
    let part = c.from-2.ensures.from ∙ ap (λ all. drop c.self.inside.place (encoded all)) c.deref-2.ensures in
    let behind = behind-first _ _ left c.self.inside.within _ (c.from.ensures.from ∙ ap (λ all. drop c.self.inside.place (encoded all)) c.deref.ensures) _ c.first_count-count.ensures in (
      (refl, (λ _. tt), search (the-commands, rules, behind.spelled, behind.sound) ∙ ap (drop 1) c.self.view_is),
      record {
        given = c.first_command.ensures (record { commands = left.commands; spelled = part ∙ left.spelled; sound = left.sound }) ∙ ap (λ list. slice_get list 0) c.self.view_is;
        left = tt;
      },
    )
