use Rattle.std.proofs.Common.{sym, ◌∙◌, arith}
use Rattle.press_bits.proofs.WordLemmas.{mixed_words, blackened_words}
use Rattle.press_bits.proofs.word.mixed_word.Goals as goal

pub returns : goal.returns
returns c = grind (arith, mixed_words)

pub returns-then-not-whitens : goal.returns-then-not-whitens
returns-then-not-whitens c = λ j within. blackened_words c.args.before c.args.source c.args.pattern c.args.mask j c.args.mode (sym c.whitens.ensures ∙ c.if-not-whitens.true)
