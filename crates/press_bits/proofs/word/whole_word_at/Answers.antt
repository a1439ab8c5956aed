use Rattle.std.proofs.Common.{rules}
use Rattle.press_bits.proofs.WordLemmas.{eight_taken, word_dots, word_more}
use Rattle.press_bits.proofs.word.whole_word_at.Goals as goal

pub returns-clause-dots : goal.returns-clause-dots
returns-clause-dots c = λ j within. word_dots c.args.bits.now c.args.index _ j (λ i. (c.type_inv.bits i).fits) (search (rules, eight_taken c.args.bits.now c.args.index c.requires)) within

pub returns-clause-count : goal.returns-clause-count
returns-clause-count c = word_more c.args.bits.now c.args.index _ (λ i. (c.type_inv.bits i).fits) (search (rules, eight_taken c.args.bits.now c.args.index c.requires))
