use Rattle.std.proofs.Common.{◌≡◌, drop}
use Rattle.std.specs.Str.{bytes_eq}
use Rattle.press_cmd.specs.Language.{raised}
use Rattle.press_cmd.proofs.pjl.is_word.Given as goal

abbrev pub invariant-loop-place : goal.invariant-loop-place
invariant-loop-place l = bytes_eq (raised l.bytes) l.word ≡ bytes_eq (raised (drop l.place l.bytes)) (drop l.place l.word)
