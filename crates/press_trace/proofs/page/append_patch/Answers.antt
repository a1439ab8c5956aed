use Rattle.std.proofs.Common.{◌∙◌, ◌++◌, ap}
use Rattle.press_trace.proofs.MemberLemmas.{patch_text}
use Rattle.press_trace.proofs.TextLemmas.{all_three}
use Rattle.press_trace.proofs.page.append_patch.Goals as goal

pub returns : goal.returns
returns c =
    all_three c.args.text.now.items _ _ _ _ _ _ c.in_ok-push.ensures.items c.in_ok-append_region.ensures c.in_ok-push-2.ensures.items
    ∙ ap (λ text. c.args.text.now.items ++ text) (patch_text c.args.page.now c.args.region)
