use Rattle.std.proofs.Common.{◌≡◌, map, take}
use Rattle.std.specs.List.{flat_map}
use Rattle.press_words.specs.Defaults.{default_line}
use Rattle.press_words.proofs.defaults.prefix_of.Given as goal

-- the lines of the defaults so far
abbrev pub invariant-loop-text : goal.invariant-loop-text
invariant-loop-text l = l.prefix.items ≡ flat_map default_line (map (λ text. text.now) (take l.text-index l.defaults))
