use Rattle.press_asm.proofs.FormLaws.{sound}
use Rattle.std.proofs.Common.{arith}
use Rattle.std.proofs.Common.{sym, refl}
use Rattle.std.proofs.lemmas.Result.{on_ok_weaker, IfErr-weaker}
use Rattle.press_asm.specs.View.{form_seen}
use Rattle.press_asm.proofs.Adding.{line_adds}
use Rattle.press_asm.proofs.FormLaws.{no_form}
use Rattle.press_asm.proofs.judge.add_text_line.Goals as goal

pub returns-in-Some-clause-ok : goal.returns-in-Some-clause-ok
returns-in-Some-clause-ok c =
    on_ok_weaker c.add_form.result (λ added.
    line_adds c.args.line.now (form_seen c.in-Some.form) c.args.out.now.items _ (c.if-not-is_text.ensures.0 refl)
    (sym c.in-Some.ensures) added)
    c.add_form.ensures.ok

pub returns-in-Some-clause-err : goal.returns-in-Some-clause-err
returns-in-Some-clause-err c =
    IfErr-weaker c.add_form.result _ _ (λ fault h. grind (arith, sound, c.if-not-is_text.ensures.0 refl, sym c.in-Some.ensures)) c.add_form.ensures.err

pub returns-in-None-clause-err : goal.returns-in-None-clause-err
returns-in-None-clause-err c = no_form c.args.line.now (sym c.in-None.ensures)
