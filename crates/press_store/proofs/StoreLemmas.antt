-- Things under their IDs beside the entries of the index map.
use Rattle.std.proofs.Common.{◌≡◌, ℕ, List, Bool, Option, Some, None, option_map, cond, nat_eq, refl, sym, ap, ◌∙◌, filter, rules}
use Rattle.std.specs.Map.{lookup, keys_of}
use Rattle.std.specs.List.{IsDistinct}
use Rattle.std.specs.FinMap as maps
use Rattle.std.specs.FinMap.{gets}
use Rattle.std.proofs.lemmas.Map.Entries.{option_filter}
use Rattle.press_units.proofs.EntryLemmas as entries
use Rattle.press_units.proofs.EntryLemmas.{get-map_of, inserted, get-passing}
use Rattle.press_store.specs.declared.entry.Entry.{Entry}
use Rattle.press_store.specs.Things.{Things, found, stored, is_permanent, permanent_only, found_made, made}

module _ {X : Type 0} where
  -- the map that entries stand for
  abbrev pub things_of : List (ℕ × Entry X) → Things X
  things_of es = entries.map_of es

  kept_if : (o : Option (Entry X)) → option_filter (λ e. e.permanent) o ≡ cond (is_permanent o) o None
  kept_if None = refl
  kept_if (Some e) = refl

  -- the map of the permanent entries
  pub kept_only : (es fs : List (ℕ × Entry X)) → IsDistinct nat_eq (keys_of es) → fs ≡ filter (λ e. e.1.permanent) es
      → things_of fs ≡ permanent_only (things_of es)
  kept_only es fs distinct is = entries.kept_only (λ e. e.permanent) is_permanent es fs kept_if distinct is

  -- the map of entries of which the one under an ID became permanent or temporary
  pub made_present : (es fs : List (ℕ × Entry X)) (k : ℕ) (permanent : Bool) (e : Entry X) → lookup (nat_eq k) es ≡ Some e
      → ((q : ℕ) → lookup (nat_eq q) fs ≡ cond (nat_eq k q) (Some (record { value = e.value; permanent = permanent })) (lookup (nat_eq q) es))
      → things_of fs ≡ made (things_of es) k permanent
  made_present es fs k permanent e found h =
      inserted es fs k (record { value = e.value; permanent = permanent }) h
      ∙ ap (found_made (things_of es) k permanent) (sym (get-map_of es k ∙ found))

  -- where none is under the ID, nothing changes
  pub made_absent : (es : List (ℕ × Entry X)) (k : ℕ) (permanent : Bool) → lookup (nat_eq k) es ≡ None
      → things_of es ≡ made (things_of es) k permanent
  made_absent es k permanent none = ap (found_made (things_of es) k permanent) (sym (get-map_of es k ∙ none))

  -- the thing under an ID is the entry's
  pub found-entry : (es : List (ℕ × Entry X)) (k : ℕ) (o : Option (Entry X)) → o ≡ lookup (nat_eq k) es
      → option_map (λ e. e.value) o ≡ found (things_of es) k
  found-entry es k o is = ap (option_map (λ e. e.value)) (is ∙ sym (get-map_of es k))

  -- what stands under an ID where a thing was stored under it
  pub found-stored : (things : Things X) (id : ℕ) (value : X) → found (stored things id value) id ≡ Some value
  found-stored things id value = grind (gets, rules)

  -- the thing under an ID among the permanent ones
  pub found-permanent_only : (things : Things X) (id : ℕ)
      → found (permanent_only things) id ≡ option_map (λ e. e.value) (cond (is_permanent (maps.get things id)) (maps.get things id) None)
  found-permanent_only things id = ap (option_map (λ e. e.value)) (get-passing is_permanent things id)
