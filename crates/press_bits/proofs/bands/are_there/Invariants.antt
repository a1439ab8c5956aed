use Rattle.std.proofs.Common.{◌≡◌, ℕ, ◌<◌, ◌≤◌, true}
use Rattle.press_bits.specs.Bands.{band_at, is_there}
use Rattle.press_bits.proofs.bands.are_there.Given as goal

-- the bands so far are there
abbrev pub invariant-loop-index : goal.invariant-loop-index
invariant-loop-index l = (k : ℕ) → l.first ≤ k → k < l.index → is_there (band_at l.bands.items k) ≡ true
