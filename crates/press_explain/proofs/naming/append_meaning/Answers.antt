use Rattle.std.proofs.Common.{◌≡◌, ◌∙◌, ◌++◌, List, ℕ, Option, OnOk, ap, subst}
use Rattle.press_cmd.specs.Token.{field_of}
use Rattle.press_cmd.specs.View.{param_token}
use Rattle.press_explain.specs.Remarks.{in_brackets, meaning_key}
use Rattle.press_explain.specs.Titles.{meanings, text_at}
use Rattle.press_explain.proofs.naming.append_meaning.Goals as goal

pub returns : goal.returns
returns c =
    subst (λ (found : Option (List ℕ)). OnOk c.append_brackets.result (c.append_brackets.new.text.items ≡ c.args.text.now.items ++ in_brackets found))
    (c.meaning_of.ensures
    ∙ ap (λ (key : List ℕ). text_at key meanings)
    (c.deref.ensures.value ∙ c.in_ok-append_key.ensures ∙ ap (λ (all : List ℕ). all ++ meaning_key c.args.kind (field_of (param_token c.args.param.now))) c.new-key.ensures.items))
    c.append_brackets.ensures
