use Rattle.press_files.proofs.EntryTemplateLemmas.{has-number}
use Rattle.press_files.proofs.entry_template.has_number.Goals as goal

pub returns : goal.returns
returns c = has-number c.args.text.now c.contains.result c.contains.ensures.cases
