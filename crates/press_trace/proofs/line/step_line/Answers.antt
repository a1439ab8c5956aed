use Rattle.std.proofs.Common.{◌∙◌, ◌++◌, ◌∷◌, [], Option, ap, option_map}
use Rattle.press_bits.specs.Page.{Page}
use Rattle.press_engine.specs.declared.view.View.{View}
use Rattle.press_trace.specs.Pages.{opened_data, change_data}
use Rattle.press_trace.specs.LineSlots.{went_slots}
use Rattle.press_trace.specs.Slots.{texts_behind}
use Rattle.press_trace.specs.Spelled.{spelled}
use Rattle.press_trace.proofs.MemberLemmas.{run_text}
use Rattle.press_trace.proofs.TextLemmas.{all_seven}
use Rattle.press_trace.proofs.line.step_line.Goals as goal

pub returns : goal.returns
returns c =
    let page : Option Page = option_map (λ page. page.now) c.args.page in
    let before : Option View = option_map (λ view. view.now) c.args.before in
    let whole = all_seven [] _ _ _ _ _ _ _ _ _ _ _ _ _ _ (c.in_ok-push.ensures.items ∙ ap (λ text. text ++ 123 ∷ []) c.new-text.ensures.items)
    c.in_ok-append_number_member.ensures c.in_ok-append_begin.ensures c.in_ok-append_page.ensures (c.in_ok-append_went.ensures ∙ ap (λ replies. c.append_page.new.text.items ++ texts_behind (went_slots replies c.args.now.now)) c.deref.ensures.value) c.in_ok-append_end.ensures
    c.in_ok-push-2.ensures.items in
    c.in_ok-push-3.ensures.items
    ∙ ap (λ text. text ++ 10 ∷ []) (
    c.in_ok-line.ensures
    ∙ ap spelled (whole ∙ run_text c.args.steps c.args.place c.args.went.now.sheets c.args.went.now.replies.items before c.args.now.now (opened_data c.args.told.opened page)
    (change_data c.args.told.change page))
    )
