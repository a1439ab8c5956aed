use Rattle.std.proofs.Common.{arith}
use Rattle.press_rows.proofs.PlaceLemmas.{same_places-end}
use Rattle.press_rows.proofs.encoder.count_same.Goals as goal

pub returns-clause-count : goal.returns-clause-count
returns-clause-count c = grind (arith, same_places-end)
