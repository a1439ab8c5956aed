use Rattle.std.proofs.Common.{◌≡◌, ◌++◌, drop, option_map}
use Rattle.serde_json.specs.View.{items_view}
use Rattle.press_ticket.specs.Members.{pairs_of}
use Rattle.press_ticket.proofs.members.pairs.Given as goal

abbrev pub invariant-loop-item : goal.invariant-loop-item
invariant-loop-item l =
    option_map (λ pairs. l.found.items ++ pairs) (pairs_of (items_view (drop l.item-index l.fn.items.items))) ≡ pairs_of (items_view l.fn.items.items)
