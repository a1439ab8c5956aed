use Rattle.std.proofs.Common.{◌∙◌, [], sym, ap}
use Rattle.std.proofs.lemmas.List.{take_all}
use Rattle.press_pjl.specs.Variables.{is_assignment}
use Rattle.press_words.proofs.DefaultsLemmas.{assignments-all, assignments-none}
use Rattle.press_words.proofs.defaults.are_assignments.Goals as goal

pub returns-then-not-is_assignment : goal.returns-then-not-is_assignment
returns-then-not-is_assignment c =
    assignments-none c.args.defaults.now c.loop-text.text-index (record { ref_ptr = (0, 0); now = [] }) c.loop-text-test.true
    (ap is_assignment (sym c.as_bytes.ensures.value) ∙ sym c.is_assignment.ensures ∙ c.if-not-is_assignment.true)

pub returns : goal.returns
returns c = assignments-all c.args.defaults.now c.loop-text.text-index c.loop-text.invariant (take_all c.loop-text.text-index c.args.defaults.now c.loop-text-test.false)
