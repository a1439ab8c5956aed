use Rattle.std.proofs.Common.{◌≡◌, ℕ, List, ◌++◌, drop}
use Rattle.std.specs.Io.KnownBytes.{Appends}
use Rattle.press_files.specs.EntryListing.{entry_lines}
use Rattle.press_files.proofs.listing.list_entries.Given as goal

-- the sheets so far are listed
abbrev pub invariant-loop-sheet : goal.invariant-loop-sheet
invariant-loop-sheet g l =
    (done : List ℕ) × (entry_lines l.sheets ≡ done ++ entry_lines (drop l.sheet-index l.sheets))
    × Appends (g.W.WriteDevice.contents l.initial.out) (g.W.WriteDevice.contents l.out) done
