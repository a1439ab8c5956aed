-- The listing of the sheets of a press's entries.
use Rattle.std.specs.Prelude.{ℕ, ◌+◌, Bool, List, [], ◌∷◌, ◌++◌, Option, Some, None, codes}
use Rattle.std.specs.Fmt.{decimal}
use Rattle.press_bits.specs.Page.{Page}
use Rattle.press_sink.specs.declared.delivery.Delivery.{Delivery}
use Rattle.press_bits.specs.PrintedSheet.{PrintedSheet}
use Rattle.press_files.specs.declared.entry_sheets.EntrySheet.{EntrySheet}
use Rattle.press_files.specs.declared.measures.Measures.{Measures}
use Rattle.press_files.specs.Listing.{measured_line}
use Rattle.press_files.specs.Measured.{measures_by}
use Rattle.press_files.specs.Numbering.{occurrences_of}

-- The ID of an entry, and a space.
abbrev pub entry_mark : ℕ → List ℕ
entry_mark entry = codes "Q" ++ (decimal entry ++ codes " ")

-- The line of a side of an entry's sheet: the entry, and then what the listing of a stream has.
abbrev pub entry_measured_line : (entry number : ℕ) (side : List ℕ) → Measures → List ℕ
entry_measured_line entry number side measures = entry_mark entry ++ measured_line number side measures

-- the line of a back, if there is one
abbrev pub entry_back_line : (sums : Bool) (entry number : ℕ) → Option Page → List ℕ
entry_back_line sums entry number None = []
entry_back_line sums entry number (Some back) = entry_measured_line entry number (codes "back") (measures_by sums back)

-- the lines of a sheet of an entry, with sums or without: its front, and its back where it has one
abbrev pub entry_sheet_lines : (sums : Bool) (entry number : ℕ) → PrintedSheet → List ℕ
entry_sheet_lines sums entry number sheet =
    entry_measured_line entry number (codes "front") (measures_by sums sheet.front) ++ entry_back_line sums entry number sheet.back

-- the lines of sheets, each under its entry and its number
abbrev pub entry_lines : List EntrySheet → List ℕ
entry_lines [] = []
entry_lines (one ∷ sheets) = entry_sheet_lines one.sheet.sums one.sheet.tag one.number one.sheet.sheet.value ++ entry_lines sheets

-- the lines of deliveries behind others, by the entries of those
abbrev pub entry_listing_after : (sums : Bool) (before : List ℕ) → List Delivery → List ℕ
entry_listing_after sums before [] = []
entry_listing_after sums before (one ∷ deliveries) =
    entry_sheet_lines sums one.tag (occurrences_of one.tag before + 1) one.sheet ++ entry_listing_after sums (one.tag ∷ before) deliveries

-- The listing of deliveries, with sums or without: the lines of each sheet, in the order of delivery, numbered among the sheets of its entry.
abbrev pub entry_listing : (sums : Bool) → List Delivery → List ℕ
entry_listing sums deliveries = entry_listing_after sums [] deliveries
