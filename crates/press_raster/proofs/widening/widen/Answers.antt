use Rattle.std.proofs.Common.{refl}
use Rattle.press_bits.specs.Mark.{byte_dot}
use Rattle.press_bits.specs.Words.{word_dot}
use Rattle.press_raster.proofs.WideLemmas.{are_fours}
use Rattle.press_raster.proofs.widening.widen.Goals as goal

pub widen_by-requires-clause-fours : goal.widen_by-requires-clause-fours
unfolding word_dot byte_dot
widen_by-requires-clause-fours c = are_fours 2 _ refl refl

pub widen_by-requires-in-3-clause-fours : goal.widen_by-requires-in-3-clause-fours
unfolding word_dot byte_dot
widen_by-requires-in-3-clause-fours c = are_fours 3 _ refl refl

pub widen_by-requires-in-4-clause-fours : goal.widen_by-requires-in-4-clause-fours
unfolding word_dot byte_dot
widen_by-requires-in-4-clause-fours c = are_fours 4 _ refl refl

pub widen_by-requires-in-6-clause-fours : goal.widen_by-requires-in-6-clause-fours
unfolding word_dot byte_dot
widen_by-requires-in-6-clause-fours c = are_fours 6 _ refl refl

pub widen_by-requires-in_default-clause-fours : goal.widen_by-requires-in_default-clause-fours
unfolding word_dot byte_dot
widen_by-requires-in_default-clause-fours c = are_fours 8 _ refl refl
