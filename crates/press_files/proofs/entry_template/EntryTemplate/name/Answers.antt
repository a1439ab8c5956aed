use Rattle.std.proofs.Common.{arith}
use Rattle.press_files.proofs.EntryTemplateLemmas.{name-behind}
use Rattle.press_files.proofs.entry_template.EntryTemplate.name.Goals as goal

pub returns : goal.returns
returns c = grind (arith, name-behind)
