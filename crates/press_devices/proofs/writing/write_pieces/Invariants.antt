use Rattle.std.proofs.Common.{◌≡◌, ℕ, true, List, ◌++◌, drop}
use Rattle.std.specs.Io.KnownBytes.{Appends}
use Rattle.press_devices.proofs.WritesLemmas.{bytes_of}
use Rattle.press_devices.proofs.writing.write_pieces.Given as goal

-- the pieces so far were written
abbrev pub invariant-loop-piece : goal.invariant-loop-piece
invariant-loop-piece g l =
    ((done : List ℕ) × (bytes_of l.pieces ≡ done ++ bytes_of (drop l.piece-index l.pieces))
    × Appends (g.W.WriteDevice.contents l.initial.output) (g.W.WriteDevice.contents l.output) done)
    × (g.W.WriteDevice.failed l.initial.output ≡ true → g.W.WriteDevice.failed l.output ≡ true)
