use Rattle.press_asm.proofs.FormLaws.{one_form}
use Rattle.press_asm.proofs.form_law.at_most_one_form.Goals as goal

pub returns : goal.returns
returns c = one_form
