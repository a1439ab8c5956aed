-- What is kept of the sheets of entries, and under which numbers each of them stands.
use Rattle.std.specs.Prelude.{◌≡◌, ◌+◌, ℕ, List, [], ◌∷◌, ◌++◌, map, nat_eq, unwrap_or}
use Rattle.std.specs.Map.{lookup}
use Rattle.press_sink.specs.declared.delivery.Delivery.{Delivery}
use Rattle.press_files.specs.declared.entry_sheets.EntryCount.{EntryCount}
use Rattle.press_files.specs.declared.entry_sheets.EntrySheet.{EntrySheet}
use Rattle.press_files.specs.EntryPages.{sheet_page_lines}
use Rattle.press_files.specs.EntryTemplate.{EntryParts}
use Rattle.press_files.specs.Listed.{delivery_of}
use Rattle.press_files.specs.Numbering.{occurrences_of, sides_of}

-- sheets as they were delivered, each under the number of its entry
abbrev pub entry_deliveries_of : List EntrySheet → List Delivery
entry_deliveries_of sheets = map (λ one. delivery_of one.sheet) sheets

-- the entries of sheets, and their numbers
abbrev pub entries_of : List EntrySheet → List ℕ
entries_of sheets = map (λ one. one.sheet.tag) sheets

abbrev pub numbers_of : List EntrySheet → List ℕ
numbers_of sheets = map (λ one. one.number) sheets

-- what is counted of an entry; nothing of one that delivered nothing
abbrev pub count_in : (entry : ℕ) → List (ℕ × EntryCount) → EntryCount
count_in entry counts = unwrap_or (lookup (nat_eq entry) counts) (record { sheets = 0; sides = 0 })

-- Each sheet stands under its number among the sheets of its entry, and its front under its number among their sides.
abbrev pub ArePlaced : List EntrySheet → Type 0
ArePlaced sheets =
    (front : List EntrySheet) (one : EntrySheet) (behind : List EntrySheet) → sheets ≡ front ++ one ∷ behind
    → (one.number ≡ occurrences_of one.sheet.tag (entries_of front) + 1) × (one.side ≡ sides_of one.sheet.tag (entry_deliveries_of front) + 1)

-- the lines of the files of sheets, each under its numbers
abbrev pub kept_page_lines : EntryParts → List EntrySheet → List ℕ
kept_page_lines parts [] = []
kept_page_lines parts (one ∷ sheets) = sheet_page_lines parts one.sheet.tag one.number one.side one.sheet.sheet.value ++ kept_page_lines parts sheets
