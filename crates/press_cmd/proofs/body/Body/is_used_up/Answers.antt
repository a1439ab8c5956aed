use Rattle.std.proofs.Common.{◌≡◌, ◌↔◌, ◌==◌, ◌∙◌, [], IsTrue, length, drop, sym, ap, subst}
use Rattle.press_cmd.specs.Records.{encoded}
use Rattle.press_cmd.proofs.RecordLemmas.{used-up}
use Rattle.press_cmd.proofs.body.Body.is_used_up.Goals as goal

pub returns : goal.returns
returns c =
    let left = c.self.inside.left in
    let bytes = c.from.ensures.from ∙ ap (λ all. drop c.self.inside.place (encoded all)) c.deref.ensures ∙ left.spelled in
    subst (λ empty. IsTrue empty ↔ (c.args.self.now ≡ [])) (sym (c.is_empty.ensures ∙ ap (λ list. length list == 0) bytes))
    (subst (λ commands. IsTrue (length (encoded left.commands) == 0) ↔ (commands ≡ [])) c.self.view_is (used-up left.commands))
