use Rattle.std.proofs.Common.{rules}
use Rattle.press_files.proofs.FilesLemmas.{prints-by}
use Rattle.press_files.proofs.files.print_by.Goals as goal

pub returns-clause-prints : goal.returns-clause-prints
returns-clause-prints g c =
    let folder = c.print_answering-status.new.sheets in
    let all =
    prints-by g.D.Folder.parts c.args.front.now c.print_answering-status.result.1 _ _ _ _ _ _ _ _ _ _ _ _ c.new-sheets.result.taken folder.taken
    c.new-sheets.result.faults folder.faults
    c.new-sheets.ensures.taken c.new-sheets.ensures.sound c.print_answering-status.ensures.prints c.into_outputs.ensures.makes
    c.into_outputs.ensures.cause in
    search (rules, all)
