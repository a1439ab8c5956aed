use Rattle.std.proofs.Common.{sym, ◌∙◌}
use Rattle.press_bits.proofs.WordLemmas.{word_dot-ones, word_dot-zeros}
use Rattle.press_bits.proofs.word.alike.Goals as goal

pub returns-then-black : goal.returns-then-black
returns-then-black c = λ j _. word_dot-ones j ∙ sym c.if-black.true

pub returns-else-black : goal.returns-else-black
returns-else-black c = λ j _. word_dot-zeros j ∙ sym c.if-black.false
