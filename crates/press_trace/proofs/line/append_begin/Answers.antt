use Rattle.std.proofs.Common.{◌∙◌, ◌++◌, true, Some, codes, ap}
use Rattle.serde_json.specs.Data.{number, unsigned}
use Rattle.press_trace.specs.Slots.{member_text}
use Rattle.press_trace.proofs.TextLemmas.{all_four_ended}
use Rattle.press_trace.proofs.line.append_begin.Goals as goal

pub returns : goal.returns
returns c =
    all_four_ended c.args.text.now.items _ _ _ _ _ _ _ _ c.in_ok-append_number_member.ensures c.in_ok-append_delivered.ensures
    (c.in_ok-append_number_member-2.ensures ∙ ap (λ depth. c.append_delivered.new.text.items ++ member_text true (codes "depth") (Some (number (unsigned depth)))) c.from.ensures)
    c.in_ok-append_last.ensures
