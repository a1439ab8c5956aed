use Rattle.press_files.proofs.EntryTemplateLemmas.{number_nowhere}
use Rattle.press_files.proofs.entry_template.number_between.Goals as goal

pub returns-in_err-front : goal.returns-in_err-front
returns-in_err-front c = rw c.from_residual.ensures (number_nowhere c.args.before.now c.args.behind.now c.if-not-has_number.ensures c.in_err-front.ensures)
