use Rattle.std.proofs.Common.{◌≡◌, ◌++◌, drop, true, option_map}
use Rattle.std.specs.List.{list_all}
use Rattle.press_ticket.specs.Reading.{ranges_of}
use Rattle.press_ticket.specs.Ticket.{is_within}
use Rattle.press_ticket.proofs.numbers.ranges_of.Given as goal

abbrev pub invariant-loop-pair : goal.invariant-loop-pair
invariant-loop-pair l = record {
  value : option_map (λ ranges. l.found.items ++ ranges) (ranges_of l.page_count (drop l.pair-index l.pairs)) ≡ ranges_of l.page_count l.pairs;
  within : list_all (is_within l.page_count) l.found.items ≡ true;
}
