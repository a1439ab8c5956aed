use Rattle.std.proofs.Common.{◌++◌, codes, sym, ap, subst, ◌∙◌}
use Rattle.press_devices.specs.Writing.{Writes}
use Rattle.press_devices.proofs.WritesLemmas.{Writes-then, Writes-stopped}
use Rattle.press_files.specs.Listing.{measured_line}
use Rattle.press_files.proofs.ListingLemmas.{kept_line, sheet_lines-kept}
use Rattle.press_files.proofs.listing.list_sheet.Goals as goal

pub returns-in_err-list_side-clause-written : goal.returns-in_err-list_side-clause-written
returns-in_err-list_side-clause-written g c =
    subst (Writes _ _ _) (sheet_lines-kept c.args.number c.args.sheet.now)
    (Writes-stopped _ _ _ (measured_line c.args.number (codes "front") c.args.sheet.now.front) _ c.from_residual.ensures.0
    c.in_err-list_side.ensures.written)

pub returns-in-Some-clause-written : goal.returns-in-Some-clause-written
returns-in-Some-clause-written g c =
    let front = measured_line c.args.number (codes "front") c.args.sheet.now.front in
    let back = measured_line c.args.number (codes "back") in
    subst (Writes _ _ _) (ap (λ kept. front ++ kept_line back kept) (sym c.in-Some.is) ∙ sheet_lines-kept c.args.number c.args.sheet.now)
    (Writes-then _ _ _ _ front (back c.in-Some.back) c.in_ok-list_side.ensures.written c.list_side-in-Some.ensures.written)
