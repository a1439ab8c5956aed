use Rattle.press_pbm.proofs.ReadBack.{read_back}
use Rattle.press_pbm.proofs.file_laws.read_back.Goals as goal

pub returns : goal.returns
returns c = read_back
