use Rattle.std.proofs.Common.{arith}
use Rattle.press_bits.proofs.WordLemmas.{nine_bytes}
use Rattle.press_bits.proofs.word.word_from.Goals as goal

pub returns : goal.returns
returns c = grind (arith, nine_bytes)
