use Rattle.press_pbm.proofs.AnswerLaws.{one_answer}
use Rattle.press_pbm.proofs.file_laws.one_answer.Goals as goal

pub returns : goal.returns
returns c = one_answer
