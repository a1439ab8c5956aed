-- The entries of an index map beside the finite map that they stand for.
use Rattle.std.proofs.Common.{◌≡◌, ℕ, List, [], ◌∷◌, Bool, Option, Some, None, cond, nat_eq, nat_cmp, refl, sym, ap, ◌∙◌, filter, rules, arith}
use Rattle.std.specs.Cmp.{nat_cmp_total}
use Rattle.std.specs.Ordering.{eq_by_cmp}
use Rattle.std.specs.Map.{lookup, keys_of}
use Rattle.std.specs.List.{IsDistinct}
use Rattle.std.specs.FinMap as maps
use Rattle.std.specs.FinMap.{find, get-from_entries, get-insert, get-remove, get-retain_keys, same_map, nat_cmp-IsAntisymmetric}
use Rattle.std.proofs.lemmas.Map.Entries.{lookup-filter-values, option_filter}
use Rattle.std.proofs.lemmas.Cmp.{nat_eq_equiv}

-- the map that entries stand for
abbrev pub map_of : {X : Type 0} → List (ℕ × X) → maps.FinMap nat_cmp X
map_of entries = maps.from_entries entries

found_entry : {X : Type 0} (es : List (ℕ × X)) (q : ℕ) → find nat_cmp q es ≡ lookup (nat_eq q) es
found_entry [] q = refl
found_entry (e ∷ es) q = grind (arith, found_entry es q)

-- what stands under a key is the entry's
pub get-map_of : {X : Type 0} (es : List (ℕ × X)) (q : ℕ) → maps.get (map_of es) q ≡ lookup (nat_eq q) es
get-map_of es q = get-from_entries nat_cmp_total es q ∙ found_entry es q

-- the map of entries in which one was put under a key
pub inserted : {X : Type 0} (es fs : List (ℕ × X)) (k : ℕ) (x : X)
    → ((q : ℕ) → lookup (nat_eq q) fs ≡ cond (nat_eq k q) (Some x) (lookup (nat_eq q) es))
    → map_of fs ≡ maps.insert (map_of es) k x
inserted es fs k x h = same_map nat_cmp_total nat_cmp-IsAntisymmetric _ _ (λ q.
    get-map_of fs q ∙ h q
    ∙ ap (λ t. cond t (Some x) (lookup (nat_eq q) es)) (search rules)
    ∙ sym (get-insert nat_cmp_total (map_of es) k x q ∙ ap (cond (eq_by_cmp nat_cmp q k) (Some x)) (get-map_of es q)))

-- the map of entries of which the one under a key was taken out
pub removed : {X : Type 0} (es fs : List (ℕ × X)) (k : ℕ)
    → ((q : ℕ) → lookup (nat_eq q) fs ≡ cond (nat_eq k q) None (lookup (nat_eq q) es))
    → map_of fs ≡ maps.remove (map_of es) k
removed es fs k h = same_map nat_cmp_total nat_cmp-IsAntisymmetric _ _ (λ q.
    get-map_of fs q ∙ h q
    ∙ ap (λ t. cond t None (lookup (nat_eq q) es)) (search rules)
    ∙ sym (get-remove nat_cmp_total (map_of es) k q ∙ ap (cond (eq_by_cmp nat_cmp q k) None) (get-map_of es q)))

-- what stands under a key where only the keys stay whose entry, if there is one, passes
pub get-passing : {X : Type 0} (passes : Option X → Bool) (map : maps.FinMap nat_cmp X) (q : ℕ)
    → maps.get (maps.retain_keys map (λ k. passes (maps.get map k))) q ≡ cond (passes (maps.get map q)) (maps.get map q) None
get-passing passes map q =
    get-retain_keys map (λ k. passes (maps.get map k)) q
    (λ x e. ap (λ y. passes (maps.get map y)) (sym (nat_cmp-IsAntisymmetric q x e)))

-- the map of the entries that are kept, which are those that pass
pub kept_only : {X : Type 0} (keeps : X → Bool) (passes : Option X → Bool) (es fs : List (ℕ × X))
    → ((o : Option X) → option_filter keeps o ≡ cond (passes o) o None)
    → IsDistinct nat_eq (keys_of es) → fs ≡ filter (λ e. keeps e.1) es
    → map_of fs ≡ maps.retain_keys (map_of es) (λ k. passes (maps.get (map_of es) k))
kept_only keeps passes es fs kept_if distinct is = same_map nat_cmp_total nat_cmp-IsAntisymmetric _ _ (λ q.
    get-map_of fs q ∙ ap (lookup (nat_eq q)) is
    ∙ lookup-filter-values nat_eq_equiv keeps q es distinct ∙ kept_if (lookup (nat_eq q) es)
    ∙ sym (get-passing passes (map_of es) q ∙ ap (λ o. cond (passes o) o None) (get-map_of es q)))
