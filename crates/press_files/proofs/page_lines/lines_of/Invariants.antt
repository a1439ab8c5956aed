use Rattle.std.proofs.Common.{◌≡◌, ℕ, List, ◌++◌, drop}
use Rattle.press_files.specs.EntryKept.{kept_page_lines}
use Rattle.press_files.specs.EntryTemplate.{entry_parts}
use Rattle.press_files.proofs.page_lines.lines_of.Given as goal

-- the sheets so far are told
abbrev pub invariant-loop-sheet : goal.invariant-loop-sheet
invariant-loop-sheet l =
    (done : List ℕ) × (kept_page_lines (entry_parts l.fn.template) l.sheets ≡ done ++ kept_page_lines (entry_parts l.fn.template) (drop l.sheet-index l.sheets))
    × (l.lines.items ≡ done)
