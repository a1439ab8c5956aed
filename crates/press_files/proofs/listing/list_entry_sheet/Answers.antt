use Rattle.std.proofs.Common.{◌++◌, codes, sym, ap, subst, ◌∙◌}
use Rattle.press_devices.specs.Writing.{Writes}
use Rattle.press_devices.proofs.WritesLemmas.{Writes-then, Writes-stopped}
use Rattle.press_files.specs.EntryListing.{entry_measured_line}
use Rattle.press_files.proofs.ListingLemmas.{kept_line}
use Rattle.press_files.proofs.EntryLines.{entry_sheet_lines-kept}
use Rattle.press_files.proofs.listing.list_entry_sheet.Goals as goal

pub returns-in_err-list_entry_side-clause-written : goal.returns-in_err-list_entry_side-clause-written
returns-in_err-list_entry_side-clause-written g c =
    let sheet = c.args.sheet.now in
    let front = entry_measured_line sheet.sheet.tag sheet.number (codes "front") sheet.sheet.front in
    subst (Writes _ _ _) (entry_sheet_lines-kept sheet.sheet.tag sheet.number sheet.sheet)
    (Writes-stopped _ _ _ front _ c.from_residual.ensures.0 c.in_err-list_entry_side.ensures.written)

pub returns-in-Some-clause-written : goal.returns-in-Some-clause-written
returns-in-Some-clause-written g c =
    let sheet = c.args.sheet.now in
    let front = entry_measured_line sheet.sheet.tag sheet.number (codes "front") sheet.sheet.front in
    let back = entry_measured_line sheet.sheet.tag sheet.number (codes "back") in
    subst (Writes _ _ _)
    (ap (λ kept. front ++ kept_line back kept) (sym c.in-Some.is) ∙ entry_sheet_lines-kept sheet.sheet.tag sheet.number sheet.sheet)
    (Writes-then _ _ _ _ front (back c.in-Some.back) c.in_ok-list_entry_side.ensures.written c.list_entry_side-in-Some.ensures.written)
