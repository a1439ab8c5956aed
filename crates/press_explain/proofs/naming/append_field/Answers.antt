use Rattle.std.proofs.Common.{◌∙◌, ◌++◌, ◌==◌, List, ℕ, length, ap}
use Rattle.std.specs.Prelude.{codes}
use Rattle.press_cmd.specs.Token.{field_of}
use Rattle.press_cmd.specs.View.{param_token}
use Rattle.press_explain.proofs.CarryLemmas.{ok_so}
use Rattle.press_explain.proofs.DeedLemmas.{some_field, three_said}
use Rattle.press_explain.proofs.naming.append_field.Goals as goal

pub returns : goal.returns
returns c =
    ok_so c.append_meaning.result
    (λ said. three_said c.args.text.now.items c.extend_from_slice.new.self.items c.extend_from_slice-2.new.self.items c.append_meaning.new.text.items
    (codes ": ") (field_of (param_token c.args.param.now)) _
    c.in_ok-extend_from_slice.ensures.items
    (c.in_ok-extend_from_slice-2.ensures.items ∙ ap (λ (field : List ℕ). c.extend_from_slice.new.self.items ++ field) c.field-field.ensures)
    said
    ∙ ap (λ (all : List ℕ). c.args.text.now.items ++ all)
    (some_field c.args.kind (field_of (param_token c.args.param.now)) c.is_empty.result
    (c.is_empty.ensures ∙ ap (λ (field : List ℕ). length field == 0) c.field-field.ensures) c.if-is_empty.false))
    c.append_meaning.ensures
