use Rattle.std.proofs.lemmas.List.Sums.{prefix_len-le-length}
use Rattle.std.proofs.Common.{arith}
use Rattle.press_cmd.proofs.storing.field_length.Goals as goal

pub returns : goal.returns
returns c = grind (arith, c.unwrap_or.ensures, c.end_place.ensures, prefix_len-le-length)
