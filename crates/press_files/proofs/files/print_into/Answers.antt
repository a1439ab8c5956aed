use Rattle.std.proofs.Common.{ap, refl, inr}
use Rattle.press_files.proofs.FilesLemmas.{makes_files, prints-no-files}
use Rattle.press_files.proofs.files.print_into.Goals as goal

pub returns-in-Ok-clause-files : goal.returns-in-Ok-clause-files
returns-in-Ok-clause-files g c = λ zero.
    let begun = ap g.O.NamedOutputs.made c.in-Ok.ensures.outputs in
    makes_files c.args.template.now c.args.front.now _ _ _ _ _ _ _ _ _ _ _ c.in-Ok.ensures.template (rw begun at c.print_by.ensures.prints) zero

pub returns-in-Err-clause-prints : goal.returns-in-Err-clause-prints
returns-in-Err-clause-prints g c =
    inr (prints-no-files c.in-Err.unopened.error c.args.template.now _ _ c.in-Err.ensures.bad
    (record {
      answers = c.report-status.ensures.status;
      told = c.report-status.ensures.told;
      unread = refl;
      unwritten = refl;
      unmade = ap g.O.NamedOutputs.made c.in-Err.ensures.back;
    }))
