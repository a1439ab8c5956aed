use Rattle.std.proofs.Common.{◌≡◌, ◌∙◌, ◌++◌, List, ℕ, OnOk, ap, sym, subst}
use Rattle.press_cmd.specs.Kinds.{kind_of}
use Rattle.press_cmd.specs.Token.{field_of}
use Rattle.press_cmd.specs.View.{param_token, token}
use Rattle.press_cmd.specs.declared.command.Command.{Command}
use Rattle.press_cmd.specs.declared.variant.Kind.{Kind}
use Rattle.press_explain.specs.Remarks.{field_said, value_said}
use Rattle.press_explain.proofs.DeedLemmas.{param_value}
use Rattle.press_explain.proofs.naming.append_value.Goals as goal

pub returns-in-Param : goal.returns-in-Param
returns-in-Param c =
    let param = c.in-Param.param in
    subst (λ (command : Command). OnOk c.append_field.result (c.append_field.new.text.items ≡ c.args.text.now.items ++ value_said (token command))) (sym c.in-Param.is)
    (subst (λ (told : List ℕ). OnOk c.append_field.result (c.append_field.new.text.items ≡ c.args.text.now.items ++ told))
    (ap (λ (kind : Kind). field_said kind (field_of (param_token param))) (c.requires.kind ∙ ap (λ (command : Command). kind_of (token command)) c.in-Param.is)
    ∙ sym (param_value param.character param.group param.field.now param.end param.payload.now)) c.append_field.ensures)
