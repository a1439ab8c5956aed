use Rattle.std.proofs.Common.{◌∙◌, ◌++◌, true, codes, sym, ap, append-nil, option_map, arith}
use Rattle.press_trace.specs.Slots.{key_text, member_text}
use Rattle.press_trace.proofs.SeenLemmas.{view_text, view_none, view_some}
use Rattle.press_trace.proofs.TextLemmas.{all_four}
use Rattle.press_trace.proofs.seen.append_view.Goals as goal

pub returns-then-not-tells_some_group : goal.returns-then-not-tells_some_group
returns-then-not-tells_some_group c = grind (arith, view_none, append-nil)

pub returns : goal.returns
returns c =
    let old = c.args.text.now.items in
    let before = option_map (λ view. view.now) c.args.before in
    let some = view_some before c.args.now.now (sym c.tells_some_group.ensures ∙ c.if-not-tells_some_group.false) in
    all_four old _ _ _ _ _ _ _ _ c.in_ok-append_key.ensures c.in_ok-push.ensures.items c.in_ok-append_groups.ensures c.in_ok-push-2.ensures.items
    ∙ ap (λ text. old ++ (key_text true (codes "view") ++ text)) (view_text before c.args.now.now)
    ∙ ap (λ told. old ++ member_text true (codes "view") told) (sym some)
