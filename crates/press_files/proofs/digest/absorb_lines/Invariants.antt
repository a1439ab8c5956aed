use Rattle.std.proofs.Common.{◌≡◌, ◌-◌, ◌*◌, ℕ, List, ◌++◌}
use Rattle.std.specs.List.{flat_map, range_with_len}
use Rattle.sha2.specs.Hashers.{Holds256}
use Rattle.press_pbm.specs.Spelling.{line_bytes}
use Rattle.press_files.proofs.digest.absorb_lines.Given as goal

-- the lines of the bands above were taken
abbrev pub invariant-loop-index : goal.invariant-loop-index
invariant-loop-index l =
    (done : List ℕ)
    × (flat_map (line_bytes l.fn.page) (range_with_len 0 l.fn.page.height) ≡ done ++ flat_map (line_bytes l.fn.page) (range_with_len (64 * l.index) (l.fn.page.height - 64 * l.index)))
    × ((before : List ℕ) → Holds256 l.fn.hasher before → Holds256 l.hasher (before ++ done))
