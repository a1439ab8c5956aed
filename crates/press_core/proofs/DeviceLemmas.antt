-- What is told of each engine.
use Rattle.std.proofs.Common.{◌≡◌, ◌<◌, ◌+◌, ◌++◌, ℕ, add-one, List, [], ◌∷◌, drop, length, map, append_assoc, arith}
use Rattle.serde_json.specs.Data.{Data}
use Rattle.press_core.specs.Listings.{listed_device}
use Rattle.press_core.specs.World.{World, device, device_running}
use Rattle.press_core.proofs.PressLemmas.{drop-slot}

-- of the engines from one on
abbrev pub told_from : (engine : ℕ) → World → List Data
told_from engine world = map listed_device (map (λ entry. device_running entry world) (drop engine world.engines))

-- of one more
pub told-next : (world : World) (engine : ℕ) (so_far all : List Data) (told : Data) → engine < length world.engines → told ≡ listed_device (device engine world)
    → so_far ++ told_from engine world ≡ all → (so_far ++ told ∷ []) ++ told_from (engine + 1) world ≡ all
told-next world engine so_far all told within is before = grind (arith, append_assoc, add-one, drop-slot)
