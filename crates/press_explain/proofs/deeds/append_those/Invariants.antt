use Rattle.std.proofs.Common.{◌≡◌, ◌++◌, take}
use Rattle.std.specs.List.{flat_map}
use Rattle.press_explain.specs.Remarks.{field_changed}
use Rattle.press_explain.proofs.deeds.append_those.Given as goal

-- the fields so far
abbrev pub invariant-loop-field : goal.invariant-loop-field
invariant-loop-field l = l.text.items ≡ l.fn.text.items ++ flat_map (field_changed l.fn.was l.fn.now l.fn.group) (take l.field-index l.fields)
