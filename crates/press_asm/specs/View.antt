-- What the forms of the code stand for.
use Rattle.std.specs.Prelude.{ℕ, List}
use Rattle.press_asm.specs.Form.{Form, Blank, ExitForm, EscapeForm, ParamForm, ControlForm, TextForm, ForeignForm, BrokenForm, LineForm}
use Rattle.press_asm.specs.declared.word.Word.{Word}
use Rattle.press_asm.specs.declared.form.Form.{Form as ReadForm}
use Rattle.press_asm.specs.declared.form.Form.TheVariants as forms

-- the form of a parameter with this word and these digits
abbrev pub param_form : Word → List ℕ → Form
param_form word digits = ParamForm word.character word.group word.field.now word.end digits

-- a form as a value
abbrev pub form_seen : ReadForm → Form
form_seen forms.Blank = Blank
form_seen forms.Uel = ExitForm
form_seen (forms.Escape escape) = EscapeForm escape.byte
form_seen (forms.Param word digits) = param_form word digits.now
form_seen (forms.Control control) = ControlForm control.byte
form_seen (forms.Text text) = TextForm text.byte
form_seen (forms.Foreign byte) = ForeignForm byte
form_seen (forms.Broken digits) = BrokenForm digits.now
form_seen (forms.PjlLine digits) = LineForm digits.now
