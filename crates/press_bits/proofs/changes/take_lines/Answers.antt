use Rattle.std.proofs.Common.{pos, to_z, of_z, w64, refl, sym, arith}
use Rattle.std.proofs.lemmas.Int.{to_z_pos}
use Rattle.press_bits.proofs.TakeLemmas.{line_taken, opaque, with_no_lines}
use Rattle.press_bits.proofs.changes.take_lines.Goals as goal

pub loop-y-init : goal.loop-y-init
loop-y-init c = (refl, sym (with_no_lines c.args.page.now.page c.args.other.now.page c.args.first c.width.ensures.inside))

pub loop-y-preserved : goal.loop-y-preserved
loop-y-preserved c = grind (arith, to_z, w64, of_z, pos, to_z_pos, opaque, line_taken)
