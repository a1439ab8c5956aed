use Rattle.std.proofs.Common.{◌∙◌, refl, ap, subst}
use Rattle.std.proofs.lemmas.Bool.{false≢true}
use Rattle.press_units.specs.Value.{whole_part}
use Rattle.press_cmd.specs.View.{token}
use Rattle.press_table.specs.Changing.{IsValueOf}
use Rattle.press_table.specs.Filling.{fill, fill_pattern}
use Rattle.press_table.specs.Memory.{TakesMemory}
use Rattle.press_table.specs.Refusals.{row_refusal}
use Rattle.press_table.specs.Table.{whole_part_of}
use Rattle.press_table.proofs.ChangingLaws.{fill_leaves, set-changes, set-refuses}
use Rattle.press_table.proofs.state.State.change_by.Goals as goal

pub returns-in_ok-fill-in-Fill-clause-changes : goal.returns-in_ok-fill-in-Fill-clause-changes
returns-in_ok-fill-in-Fill-clause-changes c =
    let state = c.args.self.now in
    let is = c.in_ok-fill-in-Fill.ensures.effect ∙ ap (λ value. fill (whole_part value) state) c.value-in-Fill.ensures.value in
    rw c.in-Fill.is
    (refl, λ source. fill_leaves (fill_pattern (whole_part_of (token c.args.command.now)) state) state c.fill.new.self c.in_ok-fill-in-Fill.field-0 is)

pub returns-in_err-fill-in-Fill-clause-memory : goal.returns-in_err-fill-in-Fill-clause-memory
returns-in_err-fill-in-Fill-clause-memory c = λ _ source.
    rw c.in-Fill.is (subst (λ value. TakesMemory (fill (whole_part value) c.args.self.now)) c.value-in-Fill.ensures.value (c.in_err-fill-in-Fill.ensures.memory refl))

pub returns-in_default : goal.returns-in_default
returns-in_default c =
    let command = token c.args.command.now in
    let old = c.args.self.now in
    let is_value : IsValueOf command c.value-value.result = record { number = c.value-value.ensures.value; sign = c.value-value.ensures.signed } in
    rw c.by-in_default.ensures (record {
      changes = set-changes c.args.operation command old c.set_by.new.self c.set_by.result _ c.set_by.ensures.plain
          (λ is source. c.set_by.ensures.changed is source command is_value) c.set_by.ensures.unchanged;
      refusal = set-refuses c.set_by.result _ _
          (c.refusal-refusal-in_default.ensures ∙ ap (λ value. row_refusal c.args.operation value old.environment) c.value-value.ensures.value);
      works = λ is. absurd (false≢true is);
      memory = λ is. absurd (false≢true is);
    })
