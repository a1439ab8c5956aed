use Rattle.press_devices.proofs.WritesLemmas.{Writes-then, Writes-stopped}
use Rattle.press_files.specs.EntryListing.{entry_mark}
use Rattle.press_files.specs.Listing.{measured_line}
use Rattle.press_files.proofs.listing.list_entry_side.Goals as goal

pub returns-in_err-write_entry-clause-written : goal.returns-in_err-write_entry-clause-written
returns-in_err-write_entry-clause-written g c =
    Writes-stopped _ _ _ (entry_mark c.args.entry) (measured_line c.args.number c.args.side.now c.args.measures.now)
    c.from_residual.ensures.0 c.in_err-write_entry.ensures.written

pub returns-clause-written : goal.returns-clause-written
returns-clause-written g c =
    Writes-then _ _ _ _ (entry_mark c.args.entry) (measured_line c.args.number c.args.side.now c.args.measures.now)
    c.in_ok-write_entry.ensures.written c.list_side.ensures.written
