use Rattle.std.proofs.Common.{◌≡◌, drop}
use Rattle.std.specs.List.{position_from}
use Rattle.press_debug.specs.Breaks.{meets_entry}
use Rattle.press_debug.proofs.breakpoints.Breakpoints.met.Given as goal

-- none of the entries so far is met
abbrev pub invariant-loop-number : goal.invariant-loop-number
invariant-loop-number l =
    position_from (λ entry. meets_entry entry l.view) l.number (drop l.number l.self-inside.table)
    ≡ position_from (λ entry. meets_entry entry l.view) 0 l.self-inside.table
