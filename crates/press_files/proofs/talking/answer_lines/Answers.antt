use Rattle.std.proofs.Common.{◌∙◌, [], refl, sym}
use Rattle.std.proofs.KnownBytes.{Appends-nil}
use Rattle.std.proofs.lemmas.Result.{err_from_is_err_and, on_ok_weaker, IfErr-weaker}
use Rattle.press_units.proofs.ExitLemmas.{exit-is}
use Rattle.press_files.specs.LineReading.{held}
use Rattle.press_files.proofs.LineLemmas.{no-lines, one-line}
use Rattle.press_files.proofs.TalkLemmas.{AnswersLines-one, IsAnswered-more, IsAnswered-ends, IsAnswered-unread, IsAnswered-stops, IsAnswered-stops_last}
use Rattle.press_files.proofs.talking.answer_lines.Goals as goal

pub returns-in_err-next-clause-err : goal.returns-in_err-next-clause-err
returns-in_err-next-clause-err g c =
    let p = err_from_is_err_and c.from_residual.result c.from_residual.ensures.1 in
    rw p.1
    (IsAnswered-unread g.T.Talk.answers c.args.talk.now _ _ _ (held c.loop-line.lines) c.loop-line.talk _ _ (held c.next.new.self)
    c.next.new.line.items c.loop-line.invariant.answered _ _ _ c.in_err-next.field-0.0 p.0
    (p.2, c.in_err-next.ensures.cause c.loop-line.invariant.told)
    c.in_err-next.ensures.line)

pub loop-line-preserved : goal.loop-line-preserved
loop-line-preserved g c = record {
  ready = c.in_ok-answer_line.ensures.ready;
  answered =
      IsAnswered-more g.T.Talk.answers c.args.talk.now _ _ _ (held c.loop-line.lines) c.loop-line.talk _ _ (held c.next.new.self)
      c.next.new.line.items c.loop-line.invariant.answered c.answer_line.new.talk (g.W.WriteDevice.contents c.answer_line.new.out)
      (rw c.if-branch.true at c.in_ok-next.ensures.line) (rw c.deref.ensures.value at c.in_ok-answer_line.ensures.ok);
  told = c.next.ensures.told c.loop-line.invariant.told;
  flushed = λ _. c.in_ok-answer_line.ensures.flushed;
}

pub returns-in_err-answer_line-clause-err : goal.returns-in_err-answer_line-clause-err
returns-in_err-answer_line-clause-err g c =
    rw (exit-is c.from_residual-in_err-answer_line.ensures.1)
    (IsAnswered-stops g.T.Talk.answers c.args.talk.now _ _ _ (held c.loop-line.lines) c.loop-line.talk _ _ (held c.next.new.self)
    c.next.new.line.items c.loop-line.invariant.answered _ _ _ (g.W.WriteDevice.contents c.answer_line.new.out)
    c.in_err-answer_line.field-0.0 c.answer_line.new.talk
    (rw c.if-branch.true at c.in_ok-next.ensures.line) (rw c.deref.ensures.value at c.in_err-answer_line.ensures.err))

pub returns-then-is_empty-clause-ok : goal.returns-then-is_empty-clause-ok
returns-then-is_empty-clause-ok g c =
    IsAnswered-ends g.T.Talk.answers c.args.talk.now _ _ _ (held c.loop-line.lines) c.loop-line.talk _ _ (held c.next.new.self)
    c.next.new.line.items c.loop-line.invariant.answered _ _ _ [] c.loop-line.talk _
    (rw c.if-branch.false at c.in_ok-next.ensures.line) (no-lines c.next.new.line.items (rw c.next.new.line.ok.0 at (sym c.is_empty.ensures ∙ c.if-is_empty.true))) ([], (refl, refl), Appends-nil _)

pub returns-clause-ok : goal.returns-clause-ok
returns-clause-ok g c =
    let given = rw c.if-branch.false at c.in_ok-next.ensures.line in
    on_ok_weaker c.answer_line-2.result
    (λ does.
    IsAnswered-ends g.T.Talk.answers c.args.talk.now _ _ _ (held c.loop-line.lines) c.loop-line.talk _ _ (held c.next.new.self)
    c.next.new.line.items c.loop-line.invariant.answered _ _ _ _ c.answer_line-2.new.talk _
    given (one-line c.next.new.line.items given.2 (rw c.next.new.line.ok.0 at (sym c.is_empty.ensures ∙ c.if-is_empty.false))) (does.0, AnswersLines-one g.T.Talk.answers _ _ _ _ does.1, does.2))
    (rw c.deref-2.ensures.value at c.answer_line-2.ensures.ok)

pub returns-clause-err : goal.returns-clause-err
returns-clause-err g c =
    let given = rw c.if-branch.false at c.in_ok-next.ensures.line in
    IfErr-weaker c.answer_line-2.result _ _
    (λ why.
    IsAnswered-stops_last g.T.Talk.answers c.args.talk.now _ _ _ (held c.loop-line.lines) c.loop-line.talk _ _ (held c.next.new.self)
    c.next.new.line.items c.loop-line.invariant.answered _ _ _ (g.W.WriteDevice.contents c.answer_line-2.new.out) why c.answer_line-2.new.talk
    given (one-line c.next.new.line.items given.2 (rw c.next.new.line.ok.0 at (sym c.is_empty.ensures ∙ c.if-is_empty.false))))
    (rw c.deref-2.ensures.value at c.answer_line-2.ensures.err)
