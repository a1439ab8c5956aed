use Rattle.std.proofs.Common.{arith}
use Rattle.press_bits.proofs.WordLemmas.{joined_prefix, joined_rest}
use Rattle.press_bits.proofs.word.joined.Goals as goal

pub returns-clause-prefix : goal.returns-clause-prefix
returns-clause-prefix c = grind (arith, joined_prefix)

pub returns-clause-rest : goal.returns-clause-rest
returns-clause-rest c = grind (arith, joined_rest)
