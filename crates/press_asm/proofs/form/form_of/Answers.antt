use Rattle.std.proofs.Common.{arith}
use Rattle.press_asm.proofs.FormRead.{named-form_of, take_least, drop_least}
use Rattle.press_asm.proofs.form.form_of.Goals as goal

pub returns : goal.returns
returns c = grind (arith, take_least, drop_least, named-form_of)
