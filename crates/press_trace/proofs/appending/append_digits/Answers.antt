use Rattle.std.proofs.Common.{◌∙◌, ◌++◌, ◌∷◌, [], sym, ap}
use Rattle.press_trace.proofs.TextLemmas.{both, digits_of_one}
use Rattle.press_trace.proofs.appending.append_digits.Goals as goal

pub returns : goal.returns
returns c =
    both c.args.text.now.items _ _ _ _ c.in_ok-push.ensures.items c.in_ok-push-2.ensures.items
    ∙ ap (λ digits. c.args.text.now.items ++ digits) ((λ i. c.digit_of.ensures i ∷ c.digit_of-2.ensures i ∷ []) ∙ sym (digits_of_one c.args.byte))
