use Rattle.std.proofs.Common.{arith, w64}
use Rattle.std.proofs.lemmas.Int.{to_z-of_z}
use Rattle.press_bits.proofs.BandLemmas.{after_ok}
use Rattle.press_canvas.proofs.LineLemmas.{opaque, painted_line, row_dot-prefix, with_line_alike}
use Rattle.press_canvas.proofs.lines.put_line.Goals as goal

pub returns : goal.returns
returns c = grind (arith, w64, to_z-of_z, after_ok, opaque, painted_line, with_line_alike, row_dot-prefix)
