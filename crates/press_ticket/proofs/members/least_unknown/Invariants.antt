use Rattle.std.proofs.Common.{◌≡◌}
use Rattle.press_ticket.proofs.LeastLemmas.{first_unknown}
use Rattle.press_ticket.proofs.members.least_unknown.Given as goal

abbrev pub invariant-loop-key : goal.invariant-loop-key
invariant-loop-key l = first_unknown l.key-iterator ≡ first_unknown l.members.entries
