use Rattle.press_disasm.proofs.ReadAgain.{read_again}
use Rattle.press_disasm.proofs.reading_back.commands_read_back.Goals as goal

pub returns : goal.returns
returns c = read_again
