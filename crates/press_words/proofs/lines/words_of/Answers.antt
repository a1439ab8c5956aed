use Rattle.std.proofs.Common.{rules}
use Rattle.std.proofs.lemmas.Iterator.Consumers.{map_from_collect}
use Rattle.std.proofs.lemmas.Iterator.Splits.{YieldsList-from_slice_split}
use Rattle.press_words.specs.Lines.{is_space}
use Rattle.press_words.proofs.lines.words_of.Goals as goal

pub returns : goal.returns
returns c =
    map_from_collect _ c.collect.ensures.ran
    (YieldsList-from_slice_split _ is_space c.args.line.now c.split.ensures.rest c.split.ensures.done c.split.ensures.closure (λ x b q called. search rules))
