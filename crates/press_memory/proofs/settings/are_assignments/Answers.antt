use Rattle.std.proofs.Common.{◌∙◌, [], refl, sym}
use Rattle.std.proofs.lemmas.List.{take_all}
use Rattle.press_words.proofs.DefaultsLemmas.{assignments-all, assignments-more, assignments-none}
use Rattle.press_memory.proofs.settings.are_assignments.Goals as goal

pub loop-word-init : goal.loop-word-init
loop-word-init c = refl

pub returns-then-not-is_assignment : goal.returns-then-not-is_assignment
returns-then-not-is_assignment c =
    assignments-none c.args.words.now c.loop-word.word-index (record { ref_ptr = (0, 0); now = [] }) c.loop-word-test.true
    (sym c.is_assignment.ensures ∙ c.if-not-is_assignment.true)

pub loop-word-preserved : goal.loop-word-preserved
loop-word-preserved c =
    assignments-more c.args.words.now c.loop-word.word-index (record { ref_ptr = (0, 0); now = [] }) c.loop-word-test.true c.loop-word.invariant
    (sym c.is_assignment.ensures ∙ c.if-not-is_assignment.false)

pub returns : goal.returns
returns c = assignments-all c.args.words.now c.loop-word.word-index c.loop-word.invariant (take_all c.loop-word.word-index c.args.words.now c.loop-word-test.false)
