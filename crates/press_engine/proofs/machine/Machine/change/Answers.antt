use Rattle.std.proofs.Common.{◌≡◌, ◌∙◌, rules, sym}
use Rattle.press_cmd.specs.Kinds.{kind_of}
use Rattle.press_cmd.specs.View.{token}
use Rattle.press_table.specs.Changing.{OnlyChanges}
use Rattle.press_table.specs.Counts.{counted}
use Rattle.press_table.specs.Refusals.{refusal_of}
use Rattle.press_table.specs.declared.effect.Source.{Source}
use Rattle.press_engine.specs.Begun.{begun_only, source_in}
use Rattle.press_engine.specs.Machine.{silent, carried}
use Rattle.press_engine.proofs.ChangingLaws.{only_changes}
use Rattle.press_engine.proofs.machine.Machine.change.Goals as goal

pub returns-clause-changes : goal.returns-clause-changes
returns-clause-changes c =
    let command = token c.args.command.now in
    let old = c.args.self.now in
    let state = c.change.new.self in
    let is : OnlyChanges command old.state state = rw c.in-Took.is at c.in_ok-refusal.ensures.changes in
    let refused : (source : Source) → c.in-Took.refusal ≡ refusal_of source command old.state = rw c.in-Took.is at c.in_ok-refusal.ensures.refusal in
    let step : counted old.step 1 ≡ c.saturating_add-self.result = search rules in
    λ in_overlay levels.
    let source = source_in in_overlay levels in
    let last : carried (kind_of command) (refusal_of source command old.state) ≡ c.carried-self.result =
    (λ i. carried (sym c.kind-kind.ensures i) (sym (refused source) i)) ∙ sym c.carried-self.ensures in
    only_changes command old state is in_overlay levels
    ∙ (λ i. begun_only (silent (record { state = state; step = step i; depth = old.depth; last = last i })))
