use Rattle.std.proofs.Common.{◌≡◌, ◌++◌, false, drop, map, option_map}
use Rattle.press_trace.specs.Seen.{field_slot}
use Rattle.press_trace.specs.Slots.{texts_of}
use Rattle.press_trace.proofs.seen.append_fields.Given as goal

-- the fields behind are missing
abbrev pub invariant-loop-field : goal.invariant-loop-field
invariant-loop-field l =
    l.text.items ++ texts_of l.later (map (field_slot (option_map (λ view. view.now) l.before) l.now) (drop l.field-index l.fields))
    ≡ l.fn.text.items ++ texts_of false (map (field_slot (option_map (λ view. view.now) l.before) l.now) l.fields)
