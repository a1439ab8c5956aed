use Rattle.std.proofs.Common.{◌≡◌, ◌+◌, ◌*◌, ◌≤◌, ◌⊎◌, true, ℕ, List, length}
use Rattle.std.specs.Io.KnownBytes.{Consumes}
use Rattle.press_bits.specs.Lines.{bytes_per_line}
use Rattle.press_bits.specs.DotRows.{page_of_rows}
use Rattle.press_pbm.proofs.reading.read_rows.Given as goal

-- the rows above were read and painted, each byte in a read at most
abbrev pub invariant-loop-y : goal.invariant-loop-y
invariant-loop-y g l =
    (rows : List ℕ) × (length rows ≡ l.y * bytes_per_line l.fn.page.width) × Consumes (g.R.ReadDevice.remaining l.fn.input) (g.R.ReadDevice.remaining l.input) rows
    × (l.page ≡ page_of_rows l.fn.page.width l.fn.page.height rows) × (length l.row ≡ bytes_per_line l.fn.page.width)
    × (g.R.ReadDevice.failed l.fn.input ≡ true → g.R.ReadDevice.failed l.input ≡ true)
    × ((g.R.ReadDevice.failed l.input ≡ true) ⊎ (l.count.reads ≤ l.fn.count.reads + l.y * bytes_per_line l.fn.page.width))
