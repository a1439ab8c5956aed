use Rattle.std.proofs.Common.{◌≡◌, true, take}
use Rattle.std.specs.List.{list_all}
use Rattle.press_words.proofs.DefaultsLemmas.{is_set}
use Rattle.press_words.proofs.defaults.are_assignments.Given as goal

-- those so far are assignments
abbrev pub invariant-loop-text : goal.invariant-loop-text
invariant-loop-text l = list_all is_set (take l.text-index l.defaults) ≡ true
