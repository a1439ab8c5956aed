use Rattle.std.proofs.Common.{arith}
use Rattle.std.proofs.lemmas.List.{map-append}
use Rattle.press_core.proofs.DeviceLemmas.{told-next}
use Rattle.press_core.proofs.press.Press.listed_devices.Goals as goal

pub loop-engine-preserved : goal.loop-engine-preserved
loop-engine-preserved c = grind (arith, map-append, told-next)
