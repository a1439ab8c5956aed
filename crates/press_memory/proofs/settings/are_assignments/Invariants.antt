use Rattle.std.proofs.Common.{◌≡◌, true, take}
use Rattle.std.specs.List.{list_all}
use Rattle.press_words.proofs.DefaultsLemmas.{is_set}
use Rattle.press_memory.proofs.settings.are_assignments.Given as goal

-- those so far are assignments
abbrev pub invariant-loop-word : goal.invariant-loop-word
invariant-loop-word l = list_all is_set (take l.word-index l.words) ≡ true
