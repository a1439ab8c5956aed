use Rattle.std.proofs.Common.{◌≡◌, ◌∙◌, ◌++◌, List, ℕ, OnOk, ap, subst}
use Rattle.press_explain.specs.Remarks.{deeds, or_nothing}
use Rattle.press_explain.proofs.remark.append_all.Goals as goal

pub returns : goal.returns
returns c =
    subst (λ (all : List ℕ). OnOk c.append_or_nothing.result (c.append_or_nothing.new.text.items ≡ c.args.text.now.items ++ or_nothing all))
    (c.deref.ensures.value ∙ c.in_ok-append_deeds.ensures
    ∙ ap (λ (all : List ℕ). all ++ deeds c.args.was.now c.args.now.now c.args.change c.args.replies.now) c.new-said.ensures.items)
    c.append_or_nothing.ensures
