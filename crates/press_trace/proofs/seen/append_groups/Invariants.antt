use Rattle.std.proofs.Common.{◌≡◌, ◌++◌, false, drop, map, option_map}
use Rattle.press_trace.specs.Seen.{group_slot}
use Rattle.press_trace.specs.Slots.{texts_of}
use Rattle.press_trace.proofs.seen.append_groups.Given as goal

-- the groups behind are missing
abbrev pub invariant-loop-group : goal.invariant-loop-group
invariant-loop-group l =
    l.text.items ++ texts_of l.later (map (group_slot (option_map (λ view. view.now) l.before) l.now) (drop l.group-index l.groups))
    ≡ l.fn.text.items ++ texts_of false (map (group_slot (option_map (λ view. view.now) l.before) l.now) l.groups)
