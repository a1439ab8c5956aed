use Rattle.std.proofs.Common.{inr}
use Rattle.std.proofs.lemmas.Result.{err_from_is_err_and}
use Rattle.press_files.proofs.TalkLemmas.{AnswersLines-one}
use Rattle.press_files.proofs.talking.answer_line.Goals as goal

pub returns-in_err-write_flushed-clause-err : goal.returns-in_err-write_flushed-clause-err
returns-in_err-write_flushed-clause-err g c =
    let answer = c.in_ok-answer.answer.items in
    let p = err_from_is_err_and c.from_residual-in_err-write_flushed.result c.from_residual-in_err-write_flushed.ensures.1 in
    rw p.1
    (inr (
      c.in_err-write_flushed.field-0.0,
      (p.2, c.in_err-write_flushed.ensures.cause),
      answer,
      AnswersLines-one g.T.Talk.answers c.args.line.now c.args.talk.now answer c.answer.new.self c.in_ok-answer.ensures.ok,
      rw c.deref.ensures.value at c.in_err-write_flushed.ensures.written,
    ))
