use Rattle.std.proofs.Common.{◌≡◌, map, take}
use Rattle.std.specs.List.{flat_map}
use Rattle.press_words.specs.Defaults.{default_line}
use Rattle.press_memory.proofs.settings.prefix_of.Given as goal

-- the lines of the settings so far
abbrev pub invariant-loop-word : goal.invariant-loop-word
invariant-loop-word l = l.prefix.items ≡ flat_map default_line (map (λ word. word.now) (take l.word-index l.words))
