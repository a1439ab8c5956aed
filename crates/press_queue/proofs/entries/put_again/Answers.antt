use Rattle.std.proofs.Common.{◌≡◌, ◌-◌, arith, rules, sym, ap, ◌∙◌, length, if◌then◌else◌, nat_lt}
use Rattle.indexmap.proofs.CallerLemmas.{index_map_len-with_value_at}
use Rattle.indexmap.specs.IndexMap.{move_index, set_value_at}
use Rattle.press_queue.specs.Entries.{place_of}
use Rattle.press_queue.proofs.PutLemmas.{put_again_by_moves}
use Rattle.press_queue.proofs.entries.put_again.Goals.{then-found-last, else-found-last}
use Rattle.press_queue.proofs.entries.put_again.Goals as goal

pub move_index-requires-in-Some-clause-from_in_bounds : goal.move_index-requires-in-Some-clause-from_in_bounds
move_index-requires-in-Some-clause-from_in_bounds c =
    omega (arith, index_map_len-with_value_at c.move_index.new.self (c.len-last.result - 1) c.args.entry, c.move_index.ensures.reordered.1, c.in-Some.ensures.within, c.len-last.ensures.len)

pub move_index-requires-in-Some-clause-to_in_bounds : goal.move_index-requires-in-Some-clause-to_in_bounds
move_index-requires-in-Some-clause-to_in_bounds c =
    let len = index_map_len-with_value_at c.move_index.new.self (c.len-last.result - 1) c.args.entry in
    elim c.if-found-last.branch [
      | then-found-last w ↦ omega (arith, len, c.move_index.ensures.reordered.1, c.in-Some.ensures.within, c.len-last.ensures.len)
      | else-found-last w ↦ omega (arith, len, c.move_index.ensures.reordered.1, c.in-Some.ensures.within, c.len-last.ensures.len)
    ]

pub returns-after-found-last : goal.returns-after-found-last
returns-after-found-last c =
    let to : c.if-found-last.to ≡ (if nat_lt c.place_of-found.result (c.len-last.result - 1) then c.place_of-found.result else (c.len-last.result - 1)) =
    elim c.if-found-last.branch [ then-found-last w ↦ grind (arith, rules) | else-found-last w ↦ grind (arith, rules) ] in
    let last = c.len-last.result - 1 in
    let is_last : last ≡ length c.args.entries.now.entries - 1 = ap (λ n. n - 1) c.len-last.ensures.len in
    let moved = c.move_index.ensures.entries in
    c.move_index-in-Some.ensures.entries
    ∙ ap (λ l. move_index (set_value_at l last c.args.entry) last c.if-found-last.to) moved
    ∙ put_again_by_moves c.args.entries.now.entries c.in-Some.place last c.args.number c.args.entry c.place_of-found.result
    c.if-found-last.to (sym c.in-Some.ensures.index) c.requires is_last c.in-Some.ensures.within
    (c.place_of-found.ensures ∙ ap (λ l. place_of c.args.entry.priority (set_value_at l last c.args.entry)) moved) to
