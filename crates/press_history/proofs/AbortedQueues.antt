-- The queue and the engines where all entries that run were aborted.
use Rattle.std.proofs.Common.{◌≡◌, ◌≤◌, ◌&&◌, ℕ, nat_eq, nat_le, cond, if◌then◌else◌, Bool, true, false, IsTrue, List, [], ◌∷◌}
use Rattle.std.proofs.Common.{filter, length, map, Option, Some, None, option_map, refl, sym, ap, subst, ◌∙◌, arith, true≢false}
use Rattle.std.specs.List.{IsDistinct}
use Rattle.std.specs.Map.{lookup}
use Rattle.std.proofs.lemmas.Bool.{eqb-true}
use Rattle.std.proofs.lemmas.List.{length-map}
use Rattle.press_queue.specs.declared.entry.Entry.{Entry}
use Rattle.press_queue.specs.Entries.{entry_numbered}
use Rattle.press_queue.specs.EveryQueue.{IsQueue, are_up_to, is_resting}
use Rattle.press_queue.specs.Rows as rows
use Rattle.press_queue.specs.Status.{is_in_flight, is_running}
use Rattle.press_core.specs.Engines.{RunsOnEngines, count_on}
use Rattle.press_core.specs.Events.{running_aborted}
use Rattle.press_core.specs.World.{World}
use Rattle.press_core.proofs.AbortLemmas.{aborted_entry, keyed, keyed-keys, where_so}
use Rattle.press_core.proofs.EngineLemmas.{runs_in}

pub keyed-lookup : {X : Type 0} (change : ℕ → X → X) (n : ℕ) (es : List (ℕ × X)) → lookup (nat_eq n) (keyed change es) ≡ option_map (change n) (lookup (nat_eq n) es)
keyed-lookup change n [] = refl
keyed-lookup change n (e ∷ es) = grind (arith, keyed, eqb-true, keyed-lookup change n es)

pub length-aborted_running : (world : World) → length (running_aborted world).engines ≡ length world.engines
length-aborted_running world = length-map world.engines (λ e. None)

-- no entry runs
pub runs-none : (n : ℕ) (world : World) → rows.entry_runs n (running_aborted world).queue ≡ false
runs-none n world =
    ap runs_in (keyed-lookup (where_so (λ m. rows.entry_runs m world.queue) aborted_entry) n world.queue.entries) ∙ at (entry_numbered n world.queue.entries)
  where
    one : (entry : Entry) (b : Bool) → is_running entry.status ≡ b → runs_in (Some (if b then aborted_entry entry else entry)) ≡ false
    one entry b is = grind arith

    at : (o : Option Entry) → runs_in (option_map (λ entry. if runs_in o then aborted_entry entry else entry) o) ≡ false
    at o = grind (arith, one)

count-free : (n : ℕ) (es : List (Option ℕ)) → count_on n (map (λ e. None) es) ≡ 0
count-free n [] = refl
count-free n (e ∷ es) = count-free n es

pub on_engines-free : (world : World) → RunsOnEngines world.queue world.engines → RunsOnEngines (running_aborted world).queue (running_aborted world).engines
on_engines-free world on = grind (arith, length-aborted_running, count-free, runs-none)

-- of some entries no more are such, where those that are aborted are not
length-cond : (b c : Bool) (x e : ℕ × Entry) (now was : List (ℕ × Entry)) → (b ≡ true → c ≡ true) → length now ≤ length was → length (cond b (x ∷ now) now) ≤ length (cond c (e ∷ was) was)
length-cond b c x e now was so below = grind arith

fewer : (t : Entry → Bool) (p : ℕ → Bool) (es : List (ℕ × Entry)) → ((entry : Entry) → t (aborted_entry entry) ≡ false)
    → length (filter (λ e. t e.1) (keyed (where_so p aborted_entry) es)) ≤ length (filter (λ e. t e.1) es)
fewer t p [] none = omega arith
fewer t p (e ∷ es) none = grind (arith, length-cond, where_so, aborted_entry, keyed, true≢false, fewer t p es none)

keyed-up_to : (last : ℕ) (change : ℕ → Entry → Entry) (es : List (ℕ × Entry)) → are_up_to last (keyed change es) ≡ are_up_to last es
keyed-up_to last change [] = refl
keyed-up_to last change (e ∷ es) = ap (λ b. nat_le e.0 last && b) (keyed-up_to last change es)

and_none : (b : Bool) → b && false ≡ false
and_none b = grind arith

pub queue-aborted : (world : World) → IsQueue world.queue → IsQueue (running_aborted world).queue
queue-aborted world kept =
    let change = where_so (λ n. rows.entry_runs n world.queue) aborted_entry in
    let es = world.queue.entries in
    record {
      distinct = subst (IsDistinct nat_eq) (sym (keyed-keys change es)) kept.distinct;
      given = subst IsTrue (sym (keyed-up_to world.queue.last change es)) kept.given;
      listed = omega (arith, length-map {B = ℕ × Entry} es (λ e. (e.0, change e.0 e.1)), kept.listed);
      in_flight = omega (arith, fewer is_in_flight (λ n. rows.entry_runs n world.queue) es (λ entry. and_none entry.begun), kept.in_flight);
      resting = omega (arith, fewer is_resting (λ n. rows.entry_runs n world.queue) es (λ entry. ap (λ b. b && true) (and_none entry.begun)), kept.resting);
    }
