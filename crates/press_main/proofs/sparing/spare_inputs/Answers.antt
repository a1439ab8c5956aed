use Rattle.press_main.proofs.ProgramLemmas.{prints-a-file}
use Rattle.press_main.proofs.sparing.spare_inputs.Goals as goal

pub returns-in-Files-clause-own : goal.returns-in-Files-clause-own
returns-in-Files-clause-own g c =
    let side = c.is_side_name.ensures.test.0 c.if-is_side_name.true in
    λ _. prints-a-file c.args.request.now c.in-File.name c.in-Files.field-0 c.in-Files.template c.in-File.is c.in-Files.is side
