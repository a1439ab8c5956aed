use Rattle.std.proofs.Common.{◌≡◌, ◌+◌, ◌<◌, ◌≤◌, ◌⊎◌, true, ℕ, List, length, Some}
use Rattle.std.specs.Io.KnownBytes.{Consumes}
use Rattle.press_pbm.specs.Reading.{least_behind}
use Rattle.press_pbm.specs.declared.place.Place.TheVariants.{Start}
use Rattle.press_pbm.proofs.HeaderLemmas.{run}
use Rattle.press_pbm.proofs.reading.read_header.Given as goal

-- the bytes that were read lead to the place, and some header of the greatest length or less begins with them; each took a read
abbrev pub invariant-loop-length : goal.invariant-loop-length
invariant-loop-length g l =
    (read : List ℕ) × (length read + 1 ≡ l.length) × (run Start read ≡ Some l.place) × (length read + least_behind l.place ≤ 65536) × (0 < least_behind l.place)
    × Consumes (g.R.ReadDevice.remaining l.initial.input) (g.R.ReadDevice.remaining l.input) read
    × (g.R.ReadDevice.failed l.initial.input ≡ true → g.R.ReadDevice.failed l.input ≡ true)
    × ((g.R.ReadDevice.failed l.input ≡ true) ⊎ (l.count.reads + 1 ≤ l.initial.count.reads + l.length))
