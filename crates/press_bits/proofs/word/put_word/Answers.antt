use Rattle.std.proofs.Common.{inl, inr, w64, arith}
use Rattle.press_bits.proofs.WordLemmas.{to_le_bytes-swap_bytes, dot_stays, word_here}
use Rattle.press_bits.proofs.word.put_word.Goals as goal

pub returns-clause-here : goal.returns-clause-here
returns-clause-here c = grind (arith, w64, to_le_bytes-swap_bytes, word_here)

pub returns-clause-elsewhere : goal.returns-clause-elsewhere
returns-clause-elsewhere c = grind (arith, dot_stays, inl, inr)
