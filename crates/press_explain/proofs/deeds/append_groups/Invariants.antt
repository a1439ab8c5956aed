use Rattle.std.proofs.Common.{◌≡◌, ◌++◌, take}
use Rattle.std.specs.List.{flat_map}
use Rattle.press_explain.specs.Remarks.{group_changed}
use Rattle.press_explain.proofs.deeds.append_groups.Given as goal

-- the groups so far
abbrev pub invariant-loop-group : goal.invariant-loop-group
invariant-loop-group l = l.text.items ≡ l.fn.text.items ++ flat_map (group_changed l.fn.was l.fn.now) (take l.group-index l.groups)
