-- Lines of the sheets of entries, one sheet after another.
use Rattle.std.proofs.Common.{◌≡◌, ◌∙◌, ◌<◌, ℕ, ◌+◌, List, [], ◌∷◌, ◌++◌, length, drop, arith}
use Rattle.std.proofs.Common.{get_or, Bool, codes, refl, sym, ap}
use Rattle.std.proofs.lemmas.List.{append_assoc, at_drop_more}
use Rattle.std.specs.List.{All}
use Rattle.std.proofs.lemmas.List.Elements.{All-head, All-tail}
use Rattle.press_files.specs.declared.entry_sheets.EntrySheet.{EntrySheet}
use Rattle.press_files.specs.declared.listed_sheet.ListedSheet.{ListedSheet}
use Rattle.press_files.specs.EntryListing.{entry_measured_line, entry_sheet_lines, entry_lines, entry_listing_after}
use Rattle.press_files.specs.EntryKept.{entries_of, numbers_of, entry_deliveries_of}
use Rattle.press_files.specs.Numbering.{occurrences_of, numbers_after}
use Rattle.press_files.proofs.ListingLemmas.{kept_line}

abbrev lines_of : EntrySheet → List ℕ
lines_of one = entry_sheet_lines one.sheet.sums one.sheet.tag one.number one.sheet.sheet.value

-- the lines of a sheet are those of what was kept of its sides
pub entry_sheet_lines-kept : (entry number : ℕ) (one : ListedSheet)
    → entry_measured_line entry number (codes "front") one.front ++ kept_line (entry_measured_line entry number (codes "back")) one.back
    ≡ entry_sheet_lines one.sums entry number one.sheet.value
entry_sheet_lines-kept entry number one = grind arith

-- one sheet more was listed
pub entry_lines-next : (sheets : List EntrySheet) (i : ℕ) (one : EntrySheet) (done all : List ℕ) → i < length sheets
    → one ≡ get_or sheets i one
    → all ≡ done ++ entry_lines (drop i sheets)
    → all ≡ (done ++ lines_of one) ++ entry_lines (drop (i + 1) sheets)
entry_lines-next sheets i one done all inside is split =
    split ∙ ap (λ rest. done ++ rest) (at_drop_more entry_lines sheets i one inside)
    ∙ sym (append_assoc done (lines_of (get_or sheets i one)) (entry_lines (drop (i + 1) sheets)))
    ∙ ap (λ (other : EntrySheet). (done ++ lines_of other) ++ entry_lines (drop (i + 1) sheets)) (sym is)

-- where each sheet has its number, and sums are listed of each or of none, the lines of the sheets are the listing of their deliveries
pub entry_lines-listing : (sums : Bool) (before : List ℕ) (sheets : List EntrySheet) → All (λ (one : EntrySheet). one.sheet.sums ≡ sums) sheets
    → numbers_of sheets ≡ numbers_after before (entries_of sheets)
    → entry_lines sheets ≡ entry_listing_after sums before (entry_deliveries_of sheets)
entry_lines-listing sums before [] summed numbered = refl
entry_lines-listing sums before (one ∷ sheets) summed numbered =
    let entry = one.sheet.tag in
    let number : one.number ≡ occurrences_of entry before + 1 = cc in
    let others : numbers_of sheets ≡ numbers_after (entry ∷ before) (entries_of sheets) = cc in
    let Summed : EntrySheet → Type 0 = λ each. each.sheet.sums ≡ sums in
    ap (λ (n : ℕ). entry_sheet_lines one.sheet.sums entry n one.sheet.sheet.value ++ entry_lines sheets) number
    ∙ ap (λ (of : Bool). entry_sheet_lines of entry (occurrences_of entry before + 1) one.sheet.sheet.value ++ entry_lines sheets) (All-head Summed one sheets summed)
    ∙ ap (λ rest. entry_sheet_lines sums entry (occurrences_of entry before + 1) one.sheet.sheet.value ++ rest)
    (entry_lines-listing sums (entry ∷ before) sheets (All-tail Summed one sheets summed) others)
