-- The files of the sides of entries' sheets, and the lines that tell them.
use Rattle.std.specs.Prelude.{◌≡◌, ℕ, zero, suc, ◌+◌, List, [], ◌∷◌, ◌++◌, Option, None, Some, codes, map, option_map}
use Rattle.std.specs.Fmt.{decimal}
use Rattle.press_bits.specs.Page.{Page}
use Rattle.press_pbm.specs.Spelling.{file_of}
use Rattle.press_sink.specs.Outputs.{MadeOutput, IsPrefix, holding, sheet_outputs, with_outputs}
use Rattle.press_bits.specs.PrintedSheet.{PrintedSheet}
use Rattle.press_sink.specs.SinkLog.{SheetLog}
use Rattle.press_sink.specs.Template.{NameParts, number_after, side_name}
use Rattle.press_sink.specs.declared.delivery.Delivery.{Delivery}
use Rattle.press_files.specs.declared.entry_template.EntryTemplate.{EntryTemplate}
use Rattle.press_files.specs.EntryTemplate.{EntryParts, entry_parts, names_of}
use Rattle.press_files.specs.Numbering.{occurrences_of, sides_of}

-- the entries of deliveries
abbrev pub tags_of : List Delivery → List ℕ
tags_of deliveries = map (λ one. one.tag) deliveries

-- The outputs of a sheet of an entry by a template, whose front has this number among the sides of the entry; none without one.
abbrev pub outputs_by : Option EntryParts → (entry number : ℕ) → PrintedSheet → List MadeOutput
outputs_by None entry number sheet = []
outputs_by (Some parts) entry number sheet = sheet_outputs (names_of parts entry) number sheet

-- those of a sheet that is delivered behind others: its sides are numbered behind those of the same entry among these
abbrev pub outputs_behind : Option EntryParts → (before : List Delivery) → Delivery → List MadeOutput
outputs_behind parts before one = outputs_by parts one.tag (sides_of one.tag before + 1) one.sheet

-- The outputs of deliveries behind others: those of each sheet, in the order of delivery.
abbrev pub pages_behind : Option EntryParts → (before : List Delivery) → List Delivery → List MadeOutput
pages_behind parts before [] = []
pages_behind parts before (one ∷ deliveries) = outputs_behind parts before one ++ pages_behind parts (before ++ one ∷ []) deliveries

-- What stands behind the outputs of sheets that a sink took, by its faults: nothing; or a prefix of the outputs of one sheet more.
abbrev pub StandsBehindPages : (faults : ℕ) → List MadeOutput → Option EntryParts → List Delivery → Type 0
StandsBehindPages zero behind parts deliveries = behind ≡ []
StandsBehindPages (suc faults) behind parts deliveries = (one : Delivery) × IsPrefix behind (outputs_behind parts deliveries one)

-- What was made of the sheets that a sink took: the outputs of all of them, and nothing else, but for a prefix of those of one sheet more where
-- it had a fault.
pub record MakesPages (parts : Option EntryParts) (deliveries : List Delivery) (faults : ℕ) (before after : Option (List MadeOutput)) : Type 0 where
  pub behind : List MadeOutput
  pub stands : StandsBehindPages faults behind parts deliveries
  pub made : after ≡ with_outputs (pages_behind parts [] deliveries ++ behind) before

-- What such a sink keeps: the parts of its template are those of the folder, and what was made is said.
pub record KeepsPages (parts : Option EntryParts) (begun : Option (List MadeOutput)) (deliveries : List Delivery) (faults : ℕ) (named : Option EntryParts) (made : Option (List MadeOutput)) : Type 0 where
  pub is_named : named ≡ parts
  pub makes : MakesPages parts deliveries faults begun made

-- what a sink of such files tells that took these sheets
abbrev pub pages_told : List Delivery → ℕ → SheetLog
pages_told deliveries faults = record { delivered = Some deliveries; faults = faults }

-- the output of a side
abbrev pub page_output : (name : List ℕ) → Page → MadeOutput
page_output name page = holding name (file_of page)

-- the parts of a template, where there is one
abbrev pub parts_in : Option EntryTemplate → Option EntryParts
parts_in template = option_map entry_parts template

-- The line of a side that was made: its entry, the number of its sheet, which side it is, and the name of its output.
abbrev pub page_line : (entry number : ℕ) (side name : List ℕ) → List ℕ
page_line entry number side name =
    codes "sheet Q" ++ (decimal entry ++ (codes " " ++ (decimal number ++ (codes " " ++ (side ++ (codes " " ++ (name ++ 10 ∷ [])))))))

-- the line of a back, if there is one
abbrev pub back_page_line : EntryParts → (entry number side : ℕ) → Option Page → List ℕ
back_page_line parts entry number side None = []
back_page_line parts entry number side (Some back) = page_line entry number (codes "back") (side_name (names_of parts entry) side)

-- the lines of a sheet, whose front has this number among the sides of its entry
abbrev pub sheet_page_lines : EntryParts → (entry number side : ℕ) → PrintedSheet → List ℕ
sheet_page_lines parts entry number side sheet =
    page_line entry number (codes "front") (side_name (names_of parts entry) side) ++ back_page_line parts entry number (number_after 1 side) sheet.back

-- the same of a sheet that is delivered behind others, by a template; none without one
abbrev pub page_lines_behind : Option EntryParts → (before : List Delivery) → Delivery → List ℕ
page_lines_behind None before one = []
page_lines_behind (Some parts) before one =
    sheet_page_lines parts one.tag (occurrences_of one.tag (tags_of before) + 1) (sides_of one.tag before + 1) one.sheet

-- The lines of deliveries behind others: those of each sheet, in the order of delivery, numbered behind those of the same entry.
abbrev pub page_lines : Option EntryParts → (before : List Delivery) → List Delivery → List ℕ
page_lines parts before [] = []
page_lines parts before (one ∷ deliveries) = page_lines_behind parts before one ++ page_lines parts (before ++ one ∷ []) deliveries
