-- An entry by its number and by its index.
use Rattle.std.proofs.Common.{◌≡◌, ℕ, zero, suc, List, [], ◌∷◌, nat_eq, Some, None, slice_get, insert, remove, sym, ap, ◌∙◌, refl, position, arith, rules}
use Rattle.std.specs.Map.{keys_of, values_of, lookup, lookup_key}
use Rattle.std.specs.Option.{option_map_or}
use Rattle.std.proofs.lemmas.Bool.{eqb-true}
use Rattle.std.proofs.lemmas.Option.{same_Some}
use Rattle.indexmap.specs.IndexMap.{move_index}
use Rattle.indexmap.proofs.MapLemmas.{Found-position, remove_entry-first}
use Rattle.press_queue.specs.declared.entry.Entry.{Entry}
use Rattle.press_queue.specs.Entries.{with_entry, without_entry, moved_to}

-- what stands at an index, from the key and the value there
pair_at : (es : List (ℕ × Entry)) (i number : ℕ) (entry : Entry) → slice_get (keys_of es) i ≡ Some number
    → slice_get (values_of es) i ≡ Some entry → slice_get es i ≡ Some (number, entry)
pair_at [] i number entry key value = grind (arith, key)
pair_at (e ∷ es) zero number entry key value = λ j. Some (same_Some e.0 number key j, same_Some e.1 entry value j)
pair_at (e ∷ es) (suc i) number entry key value = pair_at es i number entry key value

-- the key of an entry that a look-up by number finds
some_key : (es : List (ℕ × Entry)) (number : ℕ) (entry : Entry) → lookup (nat_eq number) es ≡ Some entry → lookup_key (nat_eq number) es ≡ Some number
some_key [] number entry h = grind (arith, h)
some_key (e ∷ es) number entry h = grind (arith, rules, h, eqb-true, some_key es number entry)

-- the entry at the index of its number
pub entry_at_index : (es : List (ℕ × Entry)) (i number : ℕ) (entry : Entry) → position (nat_eq number) (keys_of es) ≡ Some i
    → lookup (nat_eq number) es ≡ Some entry → slice_get es i ≡ Some (number, entry)
entry_at_index es i number entry index there =
    let found = Found-position (nat_eq number) es i index in
    pair_at es i number entry (sym found.key ∙ some_key es number entry there) (sym found.value ∙ there)

-- what stands at the index taken out, and what has the number taken out
pub remove-without : (es : List (ℕ × Entry)) (i number : ℕ) → position (nat_eq number) (keys_of es) ≡ Some i → remove es i ≡ without_entry number es
remove-without es i number index = sym (remove_entry-first (nat_eq number) es i (Found-position (nat_eq number) es i index).first)

-- an entry moved from the index of its number
pub moved_by_index : (es : List (ℕ × Entry)) (i index number : ℕ) (entry : Entry) → position (nat_eq number) (keys_of es) ≡ Some i
    → lookup (nat_eq number) es ≡ Some entry → move_index es i index ≡ moved_to index number entry es
moved_by_index es i index number entry is_at there =
    ap (λ o. option_map_or (λ e. insert (remove es i) index e) o es) (entry_at_index es i number entry is_at there)
    ∙ ap (λ l. insert l index (number, entry)) (remove-without es i number is_at)

-- nothing is replaced where no entry has the number
pub with_entry_absent : (es : List (ℕ × Entry)) (number : ℕ) (entry : Entry) → lookup (nat_eq number) es ≡ None → es ≡ with_entry number entry es
with_entry_absent [] number entry absent = refl
with_entry_absent (e ∷ es) number entry absent = grind (arith, rules, absent, with_entry_absent es number entry)
