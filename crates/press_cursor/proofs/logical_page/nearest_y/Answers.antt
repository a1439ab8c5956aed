use Rattle.std.proofs.Common.{arith}
use Rattle.std.proofs.lemmas.Int.{ints, clamps}
use Rattle.press_cursor.proofs.logical_page.nearest_y.Goals as goal

pub returns-clause-nearest : goal.returns-clause-nearest
returns-clause-nearest c = omega (arith, ints, clamps)

pub returns-clause-bound : goal.returns-clause-bound
returns-clause-bound c = omega (arith, ints, clamps)
