use Rattle.std.proofs.Common.{◌++◌, ◌∙◌, take}
use Rattle.std.proofs.KnownBytes.{Appends-trans}
use Rattle.press_devices.proofs.WritesLemmas.{moves_prefix}
use Rattle.press_devices.proofs.writing.write_whole.Goals as goal

-- what was taken is a prefix of the rest
pub loop-rest-preserved-in-Ok : goal.loop-rest-preserved-in-Ok
loop-rest-preserved-in-Ok g c =
    let ((done, split, wrote), stays) = c.loop-rest.invariant in
    let rest = c.loop-rest.rest.now in
    let prefix = take c.in-Ok.count rest in (
      (done ++ prefix, moves_prefix _ done rest c.in-Ok.count split, Appends-trans _ _ _ _ _ wrote c.in-Ok.ensures.bytes),
      λ was. c.in-Ok.ensures.failed ∙ stays was,
    )
