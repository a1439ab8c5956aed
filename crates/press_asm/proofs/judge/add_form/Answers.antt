use Rattle.std.proofs.Common.{ap, refl}
use Rattle.std.proofs.lemmas.Result.{on_ok_weaker, IfErr-weaker}
use Rattle.press_cmd.specs.Token.{Escape, Control, Text, Uel, ForeignByte}
use Rattle.press_asm.specs.Form.{ExitForm, EscapeForm, ParamForm, ControlForm, TextForm, ForeignForm, BrokenForm, LineForm}
use Rattle.press_asm.specs.View.{form_seen}
use Rattle.press_asm.proofs.Adding.{seen_added, seen_fault}
use Rattle.press_asm.proofs.judge.add_form.Goals as goal

pub returns-in-Uel-clause-ok : goal.returns-in-Uel-clause-ok
returns-in-Uel-clause-ok c =
    on_ok_weaker c.add_command.result (λ added. seen_added c.args.form.now ExitForm Uel c.args.out.now.items _ (ap form_seen c.in-Uel.is) (Uel, refl, refl) added)
    c.add_command.ensures.ok

pub returns-in-Escape-clause-ok : goal.returns-in-Escape-clause-ok
returns-in-Escape-clause-ok c =
    on_ok_weaker c.add_command-in-Escape.result (λ added.
    seen_added c.args.form.now (EscapeForm c.in-Escape.escape.byte) (Escape c.in-Escape.escape.byte) c.args.out.now.items _
    (ap form_seen c.in-Escape.is) ((Escape c.in-Escape.escape.byte), refl, refl) added)
    c.add_command-in-Escape.ensures.ok

pub returns-in-Control-clause-ok : goal.returns-in-Control-clause-ok
returns-in-Control-clause-ok c =
    on_ok_weaker c.add_command-in-Control.result (λ added.
    seen_added c.args.form.now (ControlForm c.in-Control.control.byte) (Control c.in-Control.control.byte) c.args.out.now.items _
    (ap form_seen c.in-Control.is) ((Control c.in-Control.control.byte), refl, refl) added)
    c.add_command-in-Control.ensures.ok

pub returns-in-Text-clause-ok : goal.returns-in-Text-clause-ok
returns-in-Text-clause-ok c =
    on_ok_weaker c.add_command-in-Text.result (λ added.
    seen_added c.args.form.now (TextForm c.in-Text.text.byte) (Text c.in-Text.text.byte) c.args.out.now.items _
    (ap form_seen c.in-Text.is) ((Text c.in-Text.text.byte), refl, refl) added)
    c.add_command-in-Text.ensures.ok

pub returns-in-Foreign-clause-ok : goal.returns-in-Foreign-clause-ok
returns-in-Foreign-clause-ok c =
    on_ok_weaker c.add_command-in-Foreign.result (λ added.
    seen_added c.args.form.now (ForeignForm c.in-Foreign.byte) (ForeignByte c.in-Foreign.byte) c.args.out.now.items _
    (ap form_seen c.in-Foreign.is) ((ForeignByte c.in-Foreign.byte), refl, refl) added)
    c.add_command-in-Foreign.ensures.ok

pub returns-in-Param-clause-err : goal.returns-in-Param-clause-err
returns-in-Param-clause-err c =
    IfErr-weaker c.add_param.result _ _
    (λ fault h.
    seen_fault c.args.form.now (let w = c.in-Param.word in ParamForm w.character w.group w.field.now w.end c.in-Param.digits.now)
    fault (ap form_seen c.in-Param.is) h)
    c.add_param.ensures.err

pub returns-in-Broken-clause-err : goal.returns-in-Broken-clause-err
returns-in-Broken-clause-err c =
    IfErr-weaker c.add_broken.result _ _ (λ fault h. seen_fault c.args.form.now (BrokenForm c.in-Broken.digits.now) fault (ap form_seen c.in-Broken.is) h) c.add_broken.ensures.err

pub returns-in-PjlLine-clause-err : goal.returns-in-PjlLine-clause-err
returns-in-PjlLine-clause-err c =
    IfErr-weaker c.add_line.result _ _ (λ fault h. seen_fault c.args.form.now (LineForm c.in-PjlLine.digits.now) fault (ap form_seen c.in-PjlLine.is) h) c.add_line.ensures.err
