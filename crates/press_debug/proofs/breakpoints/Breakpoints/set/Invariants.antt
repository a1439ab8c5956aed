use Rattle.std.proofs.Common.{◌≡◌, drop}
use Rattle.std.specs.List.{position_from}
use Rattle.press_debug.specs.Breaks.{is_free}
use Rattle.press_debug.proofs.breakpoints.Breakpoints.set.Given as goal

-- none of the numbers so far is free, and the table stays
abbrev pub invariant-loop-number : goal.invariant-loop-number
invariant-loop-number l =
    (position_from is_free l.number (drop l.number l.self-inside.table) ≡ position_from is_free 0 l.self-inside.table)
    × (l.self-inside.table ≡ l.fn.self)
