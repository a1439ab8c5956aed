use Rattle.std.proofs.Common.{arith}
use Rattle.std.proofs.Common.{◌∙◌, append-nil}
use Rattle.press_asm.proofs.Digits.{digits-nil, more_digits}
use Rattle.press_asm.proofs.write.write_digits.Goals as goal

pub loop-byte-init : goal.loop-byte-init
loop-byte-init c = grind (arith, digits-nil, append-nil c.args.out.now.items)

pub loop-byte-preserved : goal.loop-byte-preserved
loop-byte-preserved c =
    c.in_ok-extend_from_slice.ensures.items
    ∙ more_digits c.args.bytes.now c.loop-byte.byte-index c.from.result c.from-in-loop-byte.result c.args.out.now.items c.loop-byte.out.items
    c.loop-byte-test.true c.from.ensures c.from-in-loop-byte.ensures c.loop-byte.invariant
