-- The entries that run are aborted: on one engine after another, and all at once.
use Rattle.std.proofs.Common.{◌≡◌, ◌≤◌, ◌+◌, zero, suc, add-one, take, length, arith, ◌||◌, ℕ, nat_eq, cond, if◌then◌else◌, Bool, true, false, List, [], ◌∷◌}
use Rattle.std.proofs.Common.{map, Option, Some, None, is_some, refl, sym, ap, subst, ◌∙◌, true≢false}
use Rattle.std.specs.List.{AllByRecursion, IsDistinct}
use Rattle.std.specs.Map.{keys_of, lookup, set_value}
use Rattle.std.proofs.lemmas.Bool.{eqb-true}
use Rattle.std.proofs.lemmas.List.{take_all}
use Rattle.std.proofs.lemmas.Option.{same_Some}
use Rattle.press_page.specs.Environment.{changed_by}
use Rattle.press_queue.specs.declared.entry.Entry.{Entry}
use Rattle.press_queue.specs.declared.status.End.TheVariants.{Aborted}
use Rattle.press_queue.specs.declared.status.Status.TheVariants as statuses
use Rattle.press_queue.specs.Entries.{entry_numbered}
use Rattle.press_queue.specs.Rows as rows
use Rattle.press_queue.specs.State.{QueueState}
use Rattle.press_core.specs.Engines.{RunsOnEngines, is_number, left_by}
use Rattle.press_core.specs.Events.{running_aborted}
use Rattle.press_core.specs.Inside.{aborted_on}
use Rattle.press_core.specs.Work.{Work, without_job}
use Rattle.press_core.specs.World.{World, on_engine, works_without_job}
use Rattle.press_core.proofs.EngineLemmas.{is_on, on-runs, slot}
use Rattle.press_core.proofs.EntryLemmas.{itself}

abbrev pub aborted_entry : Entry → Entry
aborted_entry entry = record entry { status = statuses.Aborted }

-- ---- lists in which what stands under a number changes by it

abbrev pub keyed : {X : Type 0} → (ℕ → X → X) → List (ℕ × X) → List (ℕ × X)
keyed change es = map (λ e. (e.0, change e.0 e.1)) es

-- it changes where this is so
abbrev pub where_so : {X : Type 0} → (ℕ → Bool) → (X → X) → ℕ → X → X
where_so p f n x = if p n then f x else x

pub keyed-keys : {X : Type 0} (change : ℕ → X → X) (es : List (ℕ × X)) → keys_of (keyed change es) ≡ keys_of es
keyed-keys change [] = refl
keyed-keys change (e ∷ es) = ap (λ l. e.0 ∷ l) (keyed-keys change es)

keyed-none : {X : Type 0} (f : X → X) (es : List (ℕ × X)) → keyed (where_so (λ n. false) f) es ≡ es
keyed-none f [] = refl
keyed-none f (e ∷ es) = ap (λ l. e ∷ l) (keyed-none f es)

keyed-absent : {X : Type 0} (number : ℕ) (f : X → X) (es : List (ℕ × X)) → AllByRecursion (λ k. nat_eq number k ≡ false) (keys_of es) → keyed (where_so (nat_eq number) f) es ≡ es
keyed-absent number f [] all = refl
keyed-absent number f (e ∷ es) all = λ j. (e.0, if all.0 j then f e.1 else e.1) ∷ keyed-absent number f es all.1 j

keyed-missing : {X : Type 0} (number : ℕ) (f : X → X) (es : List (ℕ × X)) → lookup (nat_eq number) es ≡ None → keyed (where_so (nat_eq number) f) es ≡ es
keyed-missing number f [] none = refl
keyed-missing number f (e ∷ es) none = grind (arith, true≢false, is_some, keyed-missing number f es)

-- what is set under one number alone
set-keyed : {X : Type 0} (number : ℕ) (f : X → X) (es : List (ℕ × X)) (x : X) → IsDistinct nat_eq (keys_of es) → lookup (nat_eq number) es ≡ Some x
    → set_value (nat_eq number) es (f x) ≡ keyed (where_so (nat_eq number) f) es
unfolding IsDistinct
set-keyed number f [] x distinct is = absurd (true≢false (sym (ap is_some is)))
set-keyed number f (e ∷ es) x distinct is = at (nat_eq number e.0) refl is (set-keyed number f es x distinct.1)
  where
    others : nat_eq number e.0 ≡ true → keyed (where_so (nat_eq number) f) es ≡ es
    others same = keyed-absent number f es (subst (λ m. AllByRecursion (λ k. nat_eq m k ≡ false) (keys_of es)) (sym (eqb-true number e.0 same)) distinct.0)

    at : (b : Bool) → nat_eq number e.0 ≡ b → cond b (Some e.1) (lookup (nat_eq number) es) ≡ Some x
        → (lookup (nat_eq number) es ≡ Some x → set_value (nat_eq number) es (f x) ≡ keyed (where_so (nat_eq number) f) es)
        → cond b ((e.0, f x) ∷ es) (e ∷ set_value (nat_eq number) es (f x)) ≡ (e.0, if b then f e.1 else e.1) ∷ keyed (where_so (nat_eq number) f) es
    at true same is below = λ j. (e.0, f (sym (same_Some e.1 x is) j)) ∷ sym (others same) j
    at false same is below = ap (λ l. e ∷ l) (below is)

-- one change after another
keyed-then : {X : Type 0} (p q : ℕ → Bool) (f : X → X) (es : List (ℕ × X)) → ((x : X) → f (f x) ≡ f x)
    → keyed (where_so q f) (keyed (where_so p f) es) ≡ keyed (where_so (λ n. p n || q n) f) es
keyed-then p q f [] twice = refl
keyed-then p q f (e ∷ es) twice = grind (arith, keyed-then p q f es)

-- ---- the entries of some numbers are aborted

-- an engine is free where it runs one of these
abbrev cleared : (ℕ → Bool) → Option ℕ → Option ℕ
cleared p None = None
cleared p (Some n) = if p n then None else Some n

abbrev pub aborted_where : (ℕ → Bool) → World → World
aborted_where p world = record world {
  queue = rows.with_entries (keyed (where_so p aborted_entry) world.queue.entries) world.queue;
  works = keyed (where_so p without_job) world.works;
  engines = map (cleared p) world.engines;
}

cleared-none : (es : List (Option ℕ)) → map (cleared (λ n. false)) es ≡ es
cleared-none [] = refl
cleared-none (None ∷ es) = ap (λ l. None ∷ l) (cleared-none es)
cleared-none (Some n ∷ es) = ap (λ l. Some n ∷ l) (cleared-none es)

cleared-then : (p q : ℕ → Bool) (es : List (Option ℕ)) → map (cleared q) (map (cleared p) es) ≡ map (cleared (λ n. p n || q n)) es
cleared-then p q [] = refl
cleared-then p q (None ∷ es) = ap (λ l. None ∷ l) (cleared-then p q es)
cleared-then p q (Some n ∷ es) = grind (arith, cleared-then p q es)

cleared-left : (number : ℕ) (es : List (Option ℕ)) → left_by number es ≡ map (cleared (nat_eq number)) es
cleared-left number [] = refl
cleared-left number (None ∷ es) = ap (λ l. None ∷ l) (cleared-left number es)
cleared-left number (Some n ∷ es) = grind (arith, cleared-left number es)

cleared-slot : (p : ℕ → Bool) (i : ℕ) (es : List (Option ℕ)) → slot (map (cleared p) es) i ≡ cleared p (slot es i)
cleared-slot p i [] = refl
cleared-slot p zero (e ∷ es) = refl
cleared-slot p (suc i) (e ∷ es) = cleared-slot p i es

-- where all that stand on engines are these
cleared-all : (p : ℕ → Bool) (es : List (Option ℕ)) → ((n : ℕ) → is_on n es ≡ true → p n ≡ true) → map (cleared p) es ≡ map (λ e. None) es
cleared-all p [] on = refl
cleared-all p (None ∷ es) on = ap (λ l. None ∷ l) (cleared-all p es on)
cleared-all p (Some m ∷ es) on = grind (arith, itself, cleared-all p es)

-- of one number
finish-keyed : (number : ℕ) (queue : QueueState) → IsDistinct nat_eq (keys_of queue.entries)
    → rows.finish_entry number Aborted queue ≡ rows.with_entries (keyed (where_so (nat_eq number) aborted_entry) queue.entries) queue
finish-keyed number queue distinct = at (entry_numbered number queue.entries) refl
  where
    at : (o : Option Entry) → entry_numbered number queue.entries ≡ o
        → rows.finish_entry_at o number Aborted queue ≡ rows.with_entries (keyed (where_so (nat_eq number) aborted_entry) queue.entries) queue
    at None is = ap (λ es. rows.with_entries es queue) (sym (keyed-missing number aborted_entry queue.entries is))
    at (Some entry) is = ap (λ es. rows.with_entries es queue) (set-keyed number aborted_entry queue.entries entry distinct is)

drop-keyed : (number : ℕ) (works : List (ℕ × Work)) → IsDistinct nat_eq (keys_of works) → works_without_job number works ≡ keyed (where_so (nat_eq number) without_job) works
drop-keyed number works distinct = at (lookup (nat_eq number) works) refl
  where
    at : (o : Option Work) → lookup (nat_eq number) works ≡ o
        → changed_by o (λ work works. set_value (nat_eq number) works (without_job work)) works
        ≡ keyed (where_so (nat_eq number) without_job) works
    at None is = sym (keyed-missing number without_job works is)
    at (Some work) is = set-keyed number without_job works work distinct is

aborted-one : (number : ℕ) (world : World) → IsDistinct nat_eq (keys_of world.queue.entries) → IsDistinct nat_eq (keys_of world.works)
    → aborted_on (Some number) world ≡ aborted_where (nat_eq number) world
aborted-one number world entries works = grind (arith, finish-keyed, drop-keyed, cleared-left)

-- of some, and then of others
aborted-then : (p q : ℕ → Bool) (world : World) → aborted_where q (aborted_where p world) ≡ aborted_where (λ n. p n || q n) world
aborted-then p q world = search (arith, keyed-then, cleared-then)

-- ---- one engine after another

or_false : (b : Bool) → b ≡ b || false
or_false b = grind arith

already : (p : ℕ → Bool) (m n : ℕ) → p m ≡ true → (b : Bool) → nat_eq m n ≡ b → p n ≡ p n || b
already p m n is b same = grind arith

aborted-more : (p : ℕ → Bool) (o : Option ℕ) (world : World) → IsDistinct nat_eq (keys_of world.queue.entries) → IsDistinct nat_eq (keys_of world.works)
    → aborted_on (cleared p o) (aborted_where p world) ≡ aborted_where (λ n. p n || is_number n o) world
aborted-more p None world entries works = λ j. aborted_where (λ n. or_false (p n) j) world
aborted-more p (Some m) world entries works =
    grind (arith, already, aborted-one m (aborted_where p world), keyed-keys (where_so p aborted_entry) world.queue.entries, keyed-keys (where_so p without_job) world.works, aborted-then p (nat_eq m) world)

on-more : (n i : ℕ) (es : List (Option ℕ)) → is_on n (take (suc i) es) ≡ is_on n (take i es) || is_number n (slot es i)
on-more n zero [] = refl
on-more n (suc i) [] = refl
on-more n zero (e ∷ es) = sym (or_false (is_number n e))
on-more n (suc i) (e ∷ es) = grind (arith, is_on, slot, on-more n i es)

-- the entries of the first engines are aborted
abbrev pub aborted_so_far : (engine : ℕ) → World → World
aborted_so_far engine world = aborted_where (λ n. is_on n (take engine world.engines)) world

pub aborted-none : (world : World) → world ≡ aborted_so_far 0 world
aborted-none world = search (arith, keyed-none, cleared-none)

pub aborted-next : (i : ℕ) (world now next : World) → IsDistinct nat_eq (keys_of world.queue.entries) → IsDistinct nat_eq (keys_of world.works)
    → now ≡ aborted_so_far i world → next ≡ aborted_on (on_engine i now) now → next ≡ aborted_so_far (i + 1) world
aborted-next i world now next entries works so_far is =
    is ∙ ap (λ (w : World). aborted_on (on_engine i w) w) so_far
    ∙ ap (λ o. aborted_on o (aborted_so_far i world)) (cleared-slot (λ n. is_on n (take i world.engines)) i world.engines)
    ∙ aborted-more (λ n. is_on n (take i world.engines)) (slot world.engines i) world entries works
    ∙ (λ j. aborted_where (λ n. sym (on-more n i world.engines) j) world)
    ∙ ap (λ k. aborted_so_far k world) (sym (add-one i))

-- One engine after another, and all at once, are the same of a press.
pub aborted-all : (i : ℕ) (world : World) → length world.engines ≤ i → RunsOnEngines world.queue world.engines → aborted_so_far i world ≡ running_aborted world
aborted-all i world past on =
    ap (λ es. aborted_where (λ n. is_on n es) world) (take_all i world.engines past)
    ∙ (λ j. record world {
      queue = rows.with_entries (keyed (λ n x. if on-runs world.queue world.engines on n j then aborted_entry x else x) world.queue.entries) world.queue;
      works = keyed (λ n x. if on-runs world.queue world.engines on n j then without_job x else x) world.works;
      engines = cleared-all (λ n. is_on n world.engines) world.engines (λ n is. is) j;
    })
