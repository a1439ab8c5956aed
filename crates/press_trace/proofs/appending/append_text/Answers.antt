use Rattle.std.proofs.Common.{rules, ◌≡◌, ◌∙◌, ◌++◌, true, sym, ap}
use Rattle.std.specs.List.{list_all}
use Rattle.press_trace.specs.Unescaped.{is_unescaped}
use Rattle.press_trace.proofs.TextLemmas.{all_three, quoted_unescaped}
use Rattle.press_trace.proofs.appending.append_text.Goals as goal

pub returns : goal.returns
returns c =
    let plain : list_all is_unescaped c.args.bytes.now ≡ true = search rules in
    all_three c.args.text.now.items _ _ _ _ _ _ c.in_ok-push.ensures.items c.in_ok-extend_from_slice.ensures.items c.in_ok-push-2.ensures.items
    ∙ ap (λ text. c.args.text.now.items ++ text) (sym (quoted_unescaped c.args.bytes.now plain))
