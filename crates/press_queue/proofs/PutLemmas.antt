-- An entry that is put before the first of lower priority.
use Rattle.std.proofs.Common.{◌≡◌, ℕ, ◌-◌, ◌<◌, ◌≤◌, List, [], ◌∷◌, ◌++◌, length, Option, None, Some, remove, insert}
use Rattle.std.proofs.Common.{nat_eq, nat_lt, if◌then◌else◌, sym, ap, ◌∙◌, arith, rules, position, IsSome}
use Rattle.std.specs.Map.{keys_of, lookup}
use Rattle.std.proofs.lemmas.List.Edits.{length-remove}
use Rattle.std.proofs.lemmas.List.Folds.{position_or_len_push}
use Rattle.indexmap.specs.IndexMap.{IndexMap, get, insert_entry, insert_index, index_before, move_index, set_value_at}
use Rattle.indexmap.proofs.EntryLemmas.{set_middle}
use Rattle.indexmap.proofs.MapLemmas.{absent_from_lookup, or_len-absent, insert_entry-absent}
use Rattle.indexmap.proofs.MoveLemmas.{push_moved}
use Rattle.indexmap.proofs.RemoveLemmas.{moved_last}
use Rattle.press_queue.specs.declared.entry.Entry.{Entry}
use Rattle.press_queue.specs.Entries.{place_of, put, put_again}
use Rattle.press_queue.proofs.EntryLemmas.{entry_at_index, remove-without}

before_end : (n i : ℕ) → i ≤ n → index_before n i ≡ i
before_end n i h = grind (arith, rules)

-- a new entry goes last, and is moved to the index
pub placed : {S : Type 0} (m : IndexMap ℕ Entry S) (number : ℕ) (entry : Entry) (i : ℕ) → get nat_eq m number ≡ None → i ≤ length m.entries
    → move_index (insert_entry nat_eq m.entries number entry) (insert_index nat_eq m number) (index_before (insert_index nat_eq m number) i) ≡ insert m.entries i (number, entry)
placed m number entry i absent within = grind (arith, absent_from_lookup, insert_entry-absent, or_len-absent, before_end, push_moved)

pub place_within : (priority : ℕ) (es : List (ℕ × Entry)) → place_of priority es ≤ length es
place_within priority [] = omega arith
place_within priority (e ∷ es) = grind (arith, rules, place_within priority es)

-- The place found among all entries, of which the last has this very priority, is the place among the others.
place_before_last : (es : List (ℕ × Entry)) (number : ℕ) (entry : Entry) (found to : ℕ)
    → found ≡ place_of entry.priority (es ++ (number, entry) ∷ []) → to ≡ (if nat_lt found (length es) then found else length es)
    → to ≡ place_of entry.priority es
place_before_last es number entry found to f t = grind (arith, position_or_len_push, place_within)

-- the entry of a number that has one
pub there : (o : Option Entry) → IsSome o → (entry : Entry) × (o ≡ Some entry)
there o h = grind arith

-- An entry moved to the end, replaced there, and moved to its place among the others, is put again.
pub put_again_by_moves : (es : List (ℕ × Entry)) (i last number : ℕ) (new : Entry) (found to : ℕ)
    → position (nat_eq number) (keys_of es) ≡ Some i → IsSome (lookup (nat_eq number) es)
    → last ≡ length es - 1 → i < length es
    → found ≡ place_of new.priority (set_value_at (move_index es i last) last new)
    → to ≡ (if nat_lt found last then found else last)
    → move_index (set_value_at (move_index es i last) last new) last to ≡ put_again number new es
put_again_by_moves es i last number new found to index some is_last within f t =
    let others = remove es i in
    let old : (entry : Entry) × (lookup (nat_eq number) es ≡ Some entry) = there (lookup (nat_eq number) es) some in
    let len : length others ≡ last = omega (arith, length-remove es i within) in
    let at_end : move_index es i last ≡ others ++ (number, old.0) ∷ [] =
    ap (move_index es i) is_last ∙ moved_last es i (number, old.0) (entry_at_index es i number old.0 index old.1) in
    let replaced : set_value_at (move_index es i last) last new ≡ others ++ (number, new) ∷ [] =
    ap (λ l. set_value_at l last new) at_end ∙ ap (λ j. set_value_at (others ++ (number, old.0) ∷ []) j new) (sym len) ∙ set_middle others [] number old.0 new in
    let place : to ≡ place_of new.priority others =
    place_before_last others number new found to (f ∙ ap (place_of new.priority) replaced) (t ∙ ap (λ j. if nat_lt found j then found else j) (sym len)) in
    ap (λ l. move_index l last to) replaced ∙ ap (λ j. move_index (others ++ (number, new) ∷ []) j to) (sym len)
    ∙ ap (move_index (others ++ (number, new) ∷ []) (length others)) place
    ∙ push_moved others (number, new) (place_of new.priority others) (place_within new.priority others)
    ∙ ap (λ l. put number new l) (remove-without es i number index)
