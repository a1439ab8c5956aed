-- The sheets of the entries of a press, of which the listing keeps what it tells.
use Rattle.std.specs.Prelude.{◌<◌, Bool, List, Some, vec_len, vec_capacity}
use Rattle.indexmap.specs.IndexMap.{spare}
use Rattle.press_sink.specs.SinkLog.{SheetLog}
use Rattle.press_sink.specs.declared.delivery.Delivery.{Delivery}
use Rattle.press_files.specs.declared.entry_sheets.EntrySheet.{EntrySheet}
use Rattle.press_files.specs.declared.entry_sheets.EntrySheets.{EntrySheets}
use Rattle.press_files.specs.EntryKept.{entry_deliveries_of}

-- what a sink of the sheets of entries kept
abbrev pub kept : EntrySheets → List EntrySheet
kept sink = sink.sheets.items

-- the deliveries of which it keeps what the listing tells
abbrev pub deliveries_in : EntrySheets → List Delivery
deliveries_in sink = entry_deliveries_of (kept sink)

-- whether it lists sums
abbrev pub lists_sums : EntrySheets → Bool
lists_sums sink = sink.sums

-- what it tells as a sink
abbrev pub kept_log : EntrySheets → SheetLog
kept_log sink = record { delivered = Some (deliveries_in sink); faults = 0 }

-- there is room for one sheet more
abbrev pub HasRoom : EntrySheets → Type 0
HasRoom sink = (vec_len sink.sheets < vec_capacity sink.sheets) × (0 < spare sink.counts)
