-- What a sink of the files of entries' sides keeps.
use Rattle.std.specs.Prelude.{ℕ, List}
use Rattle.press_sink.specs.declared.delivery.Delivery.{Delivery}
use Rattle.press_files.specs.declared.entry_pages.EntryPages.{EntryPages}
use Rattle.press_files.specs.declared.entry_sheets.EntrySheets.{EntrySheets}
use Rattle.press_files.specs.EntrySheets.{deliveries_in}

-- of the sheets what the listing tells
abbrev pub kept_sheets : {O X D : Type 0} {o w d : _} → EntryPages O X D o w d → EntrySheets
kept_sheets pages = pages.sheets

-- the sheets that it took
abbrev pub deliveries_of : {O X D : Type 0} {o w d : _} → EntryPages O X D o w d → List Delivery
deliveries_of pages = deliveries_in pages.sheets

-- how many faults it had
abbrev pub faults_of : {O X D : Type 0} {o w d : _} → EntryPages O X D o w d → ℕ
faults_of pages = pages.faults
