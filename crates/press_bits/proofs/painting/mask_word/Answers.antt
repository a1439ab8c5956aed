use Rattle.std.proofs.Common.{◌*◌}
use Rattle.press_bits.proofs.WordLemmas.{masked}
use Rattle.press_bits.proofs.painting.mask_word.Goals as goal

pub returns : goal.returns
returns c = λ j within. masked (8 * c.args.part.index) c.args.part.from c.args.part.to j c.args.part.begun c.args.part.within within
