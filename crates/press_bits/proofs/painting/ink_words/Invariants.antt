use Rattle.std.proofs.Common.{◌+◌, ◌*◌}
use Rattle.press_bits.specs.Ranges.{IsPaintedFrom}
use Rattle.press_bits.proofs.painting.ink_words.Given as goal

-- the words so far
abbrev pub invariant-loop-word : goal.invariant-loop-word
invariant-loop-word l = IsPaintedFrom l.initial.rows l.rows l.line l.fn.stroke (8 * l.first) (8 * l.first + 64 * l.word)
