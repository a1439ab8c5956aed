-- As many entries run as there are engines, at most.
use Rattle.std.proofs.Common.{◌≡◌, ◌≤◌, ℕ, nat_eq, true, List, [], ◌∷◌, length, Option, Some, None, is_some, sym, ap, ◌∙◌, arith, rules}
use Rattle.std.specs.Cmp.{nat_eq_equiv}
use Rattle.std.specs.List.{IsDistinct}
use Rattle.std.specs.Map.{keys_of}
use Rattle.std.specs.Set.{is_member}
use Rattle.std.proofs.lemmas.List.{length-map}
use Rattle.std.proofs.lemmas.Map.Entries.{lookup-filter-values, option_filter}
use Rattle.std.proofs.lemmas.Map.Made.{IsDistinct-keys_filter, is_some-lookup, length-le_from_is_member}
use Rattle.press_queue.specs.declared.entry.Entry.{Entry}
use Rattle.press_queue.specs.Entries.{entry_numbered, running_ones}
use Rattle.press_queue.specs.State.{QueueState}
use Rattle.press_queue.specs.Status.{is_running}
use Rattle.press_core.specs.Engines.{RunsOnEngines}
use Rattle.press_core.proofs.EngineLemmas.{is_on, on-runs, runs_in}

-- the numbers that stand on engines
abbrev numbers : List (Option ℕ) → List ℕ
numbers [] = []
numbers (None ∷ es) = numbers es
numbers (Some n ∷ es) = n ∷ numbers es

length-numbers : (es : List (Option ℕ)) → length (numbers es) ≤ length es
length-numbers [] = omega arith
length-numbers (None ∷ es) = omega (arith, length-numbers es)
length-numbers (Some n ∷ es) = omega (arith, length-numbers es)

numbers-on : (n : ℕ) (es : List (Option ℕ)) → is_on n es ≡ true → is_member nat_eq (numbers es) n ≡ true
numbers-on n [] on = absurd (cc)
numbers-on n (None ∷ es) on = numbers-on n es on
numbers-on n (Some m ∷ es) on = grind (arith, rules, on, numbers-on n es)

-- an entry that runs is one of them
runs-on : (queue : QueueState) (es : List (Option ℕ)) → IsDistinct nat_eq (keys_of queue.entries) → RunsOnEngines queue es
    → (n : ℕ) → is_member nat_eq (keys_of (running_ones queue.entries)) n ≡ true → is_member nat_eq (numbers es) n ≡ true
runs-on queue es distinct on n among =
    numbers-on n es
    (on-runs queue es on n
    ∙ runs (entry_numbered n queue.entries)
    (ap is_some (sym (lookup-filter-values nat_eq_equiv (λ entry. is_running entry.status) n queue.entries distinct))
    ∙ is_some-lookup (nat_eq n) (running_ones queue.entries) ∙ among))
  where
    runs : (o : Option Entry) → is_some (option_filter (λ entry. is_running entry.status) o) ≡ true → runs_in o ≡ true
    runs o some = grind arith

pub running-bound : (queue : QueueState) (es : List (Option ℕ)) → IsDistinct nat_eq (keys_of queue.entries) → RunsOnEngines queue es → length (running_ones queue.entries) ≤ length es
running-bound queue es distinct on =
    let runs = running_ones queue.entries in
    omega (
      arith,
      length-map runs (λ (e : ℕ × Entry). e.0),
      length-le_from_is_member nat_eq_equiv (keys_of runs) (numbers es) (IsDistinct-keys_filter nat_eq (λ e. is_running e.1.status) queue.entries distinct) (runs-on queue es distinct on),
      length-numbers es,
    )
