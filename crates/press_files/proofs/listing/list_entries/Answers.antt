use Rattle.std.proofs.Common.{◌<◌, length, sym, subst, arith}
use Rattle.std.proofs.KnownBytes.{Appends-trans}
use Rattle.std.proofs.lemmas.Result.{MatchResult-from_err}
use Rattle.press_devices.specs.Writing.{AppendsPrefix}
use Rattle.press_devices.proofs.WritesLemmas.{prefix_then, prefix_more}
use Rattle.press_files.proofs.EntryLines.{entry_lines-next}
use Rattle.press_files.proofs.listing.list_entries.Goals as goal

pub returns-in_err-list_entry_sheet-clause-written : goal.returns-in_err-list_entry_sheet-clause-written
returns-in_err-list_entry_sheet-clause-written g c =
    let (done, split, wrote) = c.loop-sheet.invariant in
    let inside : c.loop-sheet.sheet-index < length c.args.sheets.now = omega arith in
    let all = entry_lines-next c.args.sheets.now c.loop-sheet.sheet-index c.sheet-item.result done _ inside c.sheet-item.is split in
    MatchResult-from_err _ _ _ c.from_residual.ensures.0
    (λ _. subst (AppendsPrefix _ _) (sym all) (prefix_more _ _ _ _ (prefix_then _ _ _ _ _ wrote c.in_err-list_entry_sheet.ensures.written)))

pub loop-sheet-preserved : goal.loop-sheet-preserved
loop-sheet-preserved g c =
    let (done, split, wrote) = c.loop-sheet.invariant in
    let inside : c.loop-sheet.sheet-index < length c.args.sheets.now = omega arith in (
      _,
      entry_lines-next c.args.sheets.now c.loop-sheet.sheet-index c.sheet-item.result done _ inside c.sheet-item.is split,
      Appends-trans _ _ _ _ _ wrote c.in_ok-list_entry_sheet.ensures.written,
    )
