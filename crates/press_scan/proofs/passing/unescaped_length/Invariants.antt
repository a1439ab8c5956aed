use Rattle.std.proofs.Common.{◌≡◌, take, true}
use Rattle.std.specs.List.{list_all}
use Rattle.press_scan.specs.Passing.{is_plain}
use Rattle.press_scan.proofs.passing.unescaped_length.Given as goal

abbrev pub invariant-loop-place : goal.invariant-loop-place
invariant-loop-place l = list_all (is_plain true) (take l.place l.bytes) ≡ true
