use Rattle.std.proofs.Common.{◌≡◌, min, take}
use Rattle.press_units.specs.Value.{number_of}
use Rattle.press_pjl.proofs.variable.number_to_a_thousand.Given as goal

-- the number of the digits so far, cut to one above the most copies
abbrev pub invariant-loop-digit : goal.invariant-loop-digit
invariant-loop-digit l = l.number ≡ min (number_of (take l.digit-index l.digits)) 1000
