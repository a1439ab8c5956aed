use Rattle.std.proofs.Common.{arith}
use Rattle.press_bits.proofs.WordLemmas.{word_dots, word_more}
use Rattle.press_bits.proofs.word.word_at.Goals as goal

pub returns-else-index-bits-clause-dots : goal.returns-else-index-bits-clause-dots
returns-else-index-bits-clause-dots c = λ j within. word_dots c.args.bits.now c.args.index _ j (λ i. (c.type_inv.bits i).fits) (omega arith) within

pub returns-else-index-bits-clause-count : goal.returns-else-index-bits-clause-count
returns-else-index-bits-clause-count c = word_more c.args.bits.now c.args.index _ (λ i. (c.type_inv.bits i).fits) (omega arith)
