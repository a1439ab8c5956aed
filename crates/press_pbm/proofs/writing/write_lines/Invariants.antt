use Rattle.std.proofs.Common.{◌≡◌, ◌-◌, ◌*◌, ℕ, true, List, ◌++◌}
use Rattle.std.specs.List.{flat_map, range_with_len}
use Rattle.std.specs.Io.KnownBytes.{Appends}
use Rattle.press_pbm.specs.Spelling.{line_bytes}
use Rattle.press_pbm.proofs.writing.write_lines.Given as goal

-- the lines of the bands above were written
abbrev pub invariant-loop-index : goal.invariant-loop-index
invariant-loop-index g l =
    ((done : List ℕ)
    × (flat_map (line_bytes l.fn.bitmap) (range_with_len 0 l.fn.bitmap.height) ≡ done ++ flat_map (line_bytes l.fn.bitmap) (range_with_len (64 * l.index) (l.fn.bitmap.height - 64 * l.index)))
    × Appends (g.W.WriteDevice.contents l.fn.output) (g.W.WriteDevice.contents l.output) done)
    × (g.W.WriteDevice.failed l.fn.output ≡ true → g.W.WriteDevice.failed l.output ≡ true)
