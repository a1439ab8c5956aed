use Rattle.std.proofs.Common.{◌≡◌, ◌++◌, map}
use Rattle.serde_json.specs.View.{view}
use Rattle.press_core.specs.Listings.{listed_device}
use Rattle.press_core.specs.World.{devices}
use Rattle.press_core.proofs.DeviceLemmas.{told_from}
use Rattle.press_core.proofs.press.Press.listed_devices.Given as goal

-- what is told so far, and then of the others
abbrev pub invariant-loop-engine : goal.invariant-loop-engine
invariant-loop-engine l = map view l.values.items ++ told_from l.engine l.self ≡ map listed_device (devices l.self)
