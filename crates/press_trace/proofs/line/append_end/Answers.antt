use Rattle.std.proofs.Common.{◌≡◌, ◌++◌, List, ℕ, true, Some, Option, codes, option_map}
use Rattle.serde_json.specs.Data.{number, unsigned}
use Rattle.press_engine.specs.declared.view.View.{View}
use Rattle.press_trace.specs.LineSlots.{cursor_slots, end_slots}
use Rattle.press_trace.specs.Lines.{steps_told, view_object}
use Rattle.press_trace.specs.Slots.{member_text, texts_behind}
use Rattle.press_trace.proofs.TextLemmas.{all_four}
use Rattle.press_trace.proofs.line.append_end.Goals as goal

pub returns : goal.returns
returns c =
    let now : View = c.args.now.now in
    let before : Option View = option_map (λ view. view.now) c.args.before in
    let step : List ℕ = member_text true (codes "step") (Some (number (unsigned now.step))) in
    let steps : List ℕ = member_text true (codes "steps") (steps_told c.args.steps) in
    let view : List ℕ = member_text true (codes "view") (view_object before now) in
    let all : c.append_cursor.new.text.items ≡ c.args.text.now.items ++ texts_behind (end_slots c.args.steps before now) =
    all_four c.args.text.now.items _ _ _ _ step steps view (texts_behind (cursor_slots now.x now.y)) c.in_ok-append_number_member.ensures c.in_ok-append_steps.ensures
    c.in_ok-append_view.ensures c.in_ok-append_cursor.ensures in
    all
