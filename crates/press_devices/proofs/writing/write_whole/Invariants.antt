use Rattle.std.proofs.Common.{◌≡◌, ℕ, ◌+◌, ◌-◌, true, List, ◌++◌, length}
use Rattle.std.specs.Io.KnownBytes.{Appends}
use Rattle.press_devices.proofs.writing.write_whole.Given as goal

-- what is gone from the rest was written
abbrev pub invariant-loop-rest : goal.invariant-loop-rest
invariant-loop-rest g l =
    ((done : List ℕ) × (l.fn.bytes ≡ done ++ l.rest) × Appends (g.W.WriteDevice.contents l.fn.output) (g.W.WriteDevice.contents l.output) done)
    × (g.W.WriteDevice.failed l.fn.output ≡ true → g.W.WriteDevice.failed l.output ≡ true)

-- each write takes a byte of the rest, or was interrupted
abbrev pub decreases-loop-rest : goal.decreases-loop-rest
decreases-loop-rest g l = length l.rest + (4294967295 - l.interrupted)
