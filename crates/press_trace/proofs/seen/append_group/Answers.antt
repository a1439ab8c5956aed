use Rattle.std.proofs.Common.{◌≡◌, ◌∙◌, ◌++◌, false, Option, sym, ap, append-nil, option_map, map, arith}
use Rattle.std.specs.List.{list_any}
use Rattle.press_engine.specs.declared.view.View.{View}
use Rattle.press_trace.specs.Fields.{group_word}
use Rattle.press_trace.specs.Seen.{is_told, tells_some, field_slot}
use Rattle.press_trace.specs.Slots.{key_text, member_text, texts_of}
use Rattle.press_trace.proofs.SeenLemmas.{fields_text, group_none, group_some}
use Rattle.press_trace.proofs.TextLemmas.{all_four}
use Rattle.press_trace.proofs.seen.append_group.Goals as goal
use Rattle.press_trace.proofs.seen.append_group.Goals.{After-tells_some}

abbrev earlier : (c : After-tells_some) → Option View
earlier c = option_map (λ view. view.now) c.args.before

asked : (c : After-tells_some) → c.tells_some.result ≡ tells_some (earlier c) c.args.now.now c.args.group
asked c = c.tells_some.ensures ∙ ap (list_any (is_told (earlier c) c.args.now.now)) c.fields.ensures

pub returns-then-not-tells_some-clause-text : goal.returns-then-not-tells_some-clause-text
returns-then-not-tells_some-clause-text c = grind (arith, group_none, asked, append-nil)

pub returns-then-not-tells_some-clause-behind : goal.returns-then-not-tells_some-clause-behind
returns-then-not-tells_some-clause-behind c = grind (arith, group_none, asked)

pub returns-clause-text : goal.returns-clause-text
returns-clause-text c =
    let s = (goal.at.returns-clause-text c).After-tells_some in
    let old = c.args.text.now.items in
    let slots = map (field_slot (earlier s) c.args.now.now) in
    let some = group_some (earlier s) c.args.now.now c.args.group (sym (asked s) ∙ c.if-not-tells_some.false) in
    all_four old _ _ _ _ _ _ _ _ (c.in_ok-append_key.ensures ∙ ap (λ word. old ++ key_text c.args.later word) c.word.ensures) c.in_ok-push.ensures.items
    (c.in_ok-append_fields.ensures ∙ ap (λ fields. c.push.new.self.items ++ texts_of false (slots fields)) c.fields-2.ensures) c.in_ok-push-2.ensures.items
    ∙ ap (λ text. old ++ (key_text c.args.later (group_word c.args.group) ++ text)) (fields_text (earlier s) c.args.now.now c.args.group)
    ∙ ap (λ told. old ++ member_text c.args.later (group_word c.args.group) told) (sym some)

pub returns-clause-behind : goal.returns-clause-behind
returns-clause-behind c = grind (arith, group_some, asked)
