-- On which engines a number stands, after changes of the engines and of the queue.
use Rattle.std.proofs.Common.{◌≡◌, ◌≤◌, ◌<◌, ◌+◌, ◌||◌, ℕ, zero, suc, nat_eq, cond, if◌then◌else◌, Bool, true, false, List}
use Rattle.std.proofs.Common.{[], ◌∷◌, ◌++◌, length, filter, drop, take, replicate, slice_get, slice_set, Option}
use Rattle.std.proofs.Common.{Some, None, unwrap_or, refl, sym, ap, ◌∙◌, arith}
use Rattle.std.specs.Option.{option_map_or}
use Rattle.std.proofs.lemmas.Bool.{eqb-true}
use Rattle.std.proofs.lemmas.List.{length-map, length-replicate, length-set, length-take, take_at}
use Rattle.press_queue.specs.declared.entry.Entry.{Entry}
use Rattle.press_queue.specs.Rows.{entry_runs}
use Rattle.press_queue.specs.State.{QueueState, empty_queue}
use Rattle.press_queue.specs.Status.{is_running}
use Rattle.press_core.proofs.EntryLemmas.{SetsOne, itself}
use Rattle.press_core.specs.Engines.{RunsOnEngines, are_engines, count_on, is_number, left_by}

-- 1 for what is so, and 0 for what is not
abbrev pub one : Bool → ℕ
one b = if b then 1 else 0

-- what stands on an engine
abbrev pub slot : List (Option ℕ) → (engine : ℕ) → Option ℕ
slot engines engine = unwrap_or (slice_get engines engine) None

-- ---- how often a number stands

count_cond : (b : Bool) (e : Option ℕ) (es : List (Option ℕ)) → length (cond b (e ∷ es) es) ≡ one b + length es
count_cond b e es = grind arith

pub count-cons : (n : ℕ) (e : Option ℕ) (es : List (Option ℕ)) → count_on n (e ∷ es) ≡ one (is_number n e) + count_on n es
count-cons n e es = count_cond (is_number n e) e (filter (λ x. is_number n x) es)

pub length-left_by : (number : ℕ) (es : List (Option ℕ)) → length (left_by number es) ≡ length es
length-left_by number [] = refl
length-left_by number (e ∷ es) = ap (λ n. suc n) (length-left_by number es)

-- what leaves stands nowhere
count-left_own : (n : ℕ) (es : List (Option ℕ)) → count_on n (left_by n es) ≡ 0
count-left_own n [] = refl
count-left_own n (e ∷ es) = grind (arith, count-cons, count-left_own n es)

-- the others stand where they stood
count-left_other : (m n : ℕ) → nat_eq m n ≡ false → (es : List (Option ℕ)) → count_on n (left_by m es) ≡ count_on n es
count-left_other m n apart [] = refl
count-left_other m n apart (e ∷ es) = grind (arith, count-cons, eqb-true, count-left_other m n apart es)

-- an engine without an entry takes one
count-set : (n m engine : ℕ) (es : List (Option ℕ)) → engine < length es → slot es engine ≡ None
    → count_on n (slice_set es engine (Some m)) ≡ count_on n es + one (nat_eq m n)
count-set n m engine [] within free = absurd (omega (arith, within))
count-set n m zero (e ∷ es) within free = grind (arith, count-cons)
count-set n m (suc engine) (e ∷ es) within free = grind (arith, count-cons, slice_set, count-set n m engine es (omega (arith, within)) free)

-- what stands on an engine stands somewhere
pub count-some : (n engine : ℕ) (es : List (Option ℕ)) → slot es engine ≡ Some n → 1 ≤ count_on n es
count-some n engine [] is = absurd (cc)
count-some n zero (e ∷ es) is = grind (arith, itself, count-cons)
count-some n (suc engine) (e ∷ es) is = omega (arith, count-cons n e es, count-some n engine es is)

-- what stands there is set
pub set-same : (es : List (Option ℕ)) (engine : ℕ) (x : Option ℕ) → slot es engine ≡ x → slice_set es engine x ≡ es
set-same [] engine x is = refl
set-same (e ∷ es) zero x is = ap (λ y. y ∷ es) (sym is)
set-same (e ∷ es) (suc engine) x is = ap (λ l. e ∷ l) (set-same es engine x is)

count-replicate : (n k : ℕ) → count_on n (replicate k None) ≡ 0
count-replicate n zero = refl
count-replicate n (suc k) = omega (arith, count-cons n None (replicate k None), count-replicate n k)

-- ---- the table of a press, of which so many are its engines

pub take-slice_set : (k i : ℕ) (es : List (Option ℕ)) (x : Option ℕ) → take k (slice_set es i x) ≡ slice_set (take k es) i x
take-slice_set zero i es x = refl
take-slice_set (suc k) i [] x = refl
take-slice_set (suc k) zero (e ∷ es) x = refl
take-slice_set (suc k) (suc i) (e ∷ es) x = ap (λ l. e ∷ l) (take-slice_set k i es x)

-- the first of a table were left, and the others are as before
pub left_front : (number i : ℕ) (old now : List (Option ℕ)) → i ≤ length old → now ≡ left_by number (take i old) ++ drop i old → take i now ≡ left_by number (take i old)
left_front number i old now within is = grind (arith, take_at, length-map, length-take)

-- ---- engines and the entries that run

-- whether this is an entry that runs
abbrev pub runs_in : Option Entry → Bool
runs_in o = option_map_or (λ entry. is_running entry.status) o false

pub on_engines-new : (k : ℕ) → are_engines k ≡ true → RunsOnEngines empty_queue (replicate k None)
on_engines-new k are = grind (arith, length-replicate, count-replicate)

-- the same entries run
pub on_engines-kept : (old new : QueueState) (es : List (Option ℕ)) → ((n : ℕ) → entry_runs n new ≡ entry_runs n old) → RunsOnEngines old es → RunsOnEngines new es
on_engines-kept old new es same on = record { least = on.least; most = on.most; each = λ n. on.each n ∙ sym (ap one (same n)) }

-- Another entry stands under one number, or none, and the other numbers on the engines where they stood.
on_engines-at : (number : ℕ) (is : Option Entry) (old new : QueueState) (es now : List (Option ℕ)) → SetsOne number is old.entries new.entries → length now ≡ length es
    → count_on number now ≡ one (runs_in is) → ((n : ℕ) → nat_eq number n ≡ false → count_on n now ≡ count_on n es) → RunsOnEngines old es → RunsOnEngines new now
on_engines-at number is old new es now set long own others on = grind arith

-- it runs where the one before did; or it does not, and leaves its engine; or it runs, and takes one that is free
pub on_engines-stays : (number : ℕ) (is : Option Entry) (old new : QueueState) (es : List (Option ℕ)) → SetsOne number is old.entries new.entries → runs_in is ≡ entry_runs number old
    → RunsOnEngines old es → RunsOnEngines new es
on_engines-stays number is old new es set same on = on_engines-at number is old new es es set refl (on.each number ∙ sym (ap one same)) (λ n apart. refl) on

pub on_engines-left : (number : ℕ) (is : Option Entry) (old new : QueueState) (es : List (Option ℕ)) → SetsOne number is old.entries new.entries → runs_in is ≡ false
    → RunsOnEngines old es → RunsOnEngines new (left_by number es)
on_engines-left number is old new es set still on = grind (arith, on_engines-at, length-left_by, count-left_own, count-left_other)

pub on_engines-taken : (number engine : ℕ) (is : Option Entry) (old new : QueueState) (es : List (Option ℕ)) → SetsOne number is old.entries new.entries → engine < length es
    → slot es engine ≡ None → entry_runs number old ≡ false → runs_in is ≡ true → RunsOnEngines old es → RunsOnEngines new (slice_set es engine (Some number))
on_engines-taken number engine is old new es set within free still runs on = grind (arith, on_engines-at, slice_set, length-set, count-set, itself)

-- what stands on an engine runs
pub runs-on_engine : (number engine : ℕ) (queue : QueueState) (es : List (Option ℕ)) → slot es engine ≡ Some number → RunsOnEngines queue es → entry_runs number queue ≡ true
runs-on_engine number engine queue es is on = grind (arith, count-some)

-- whether a number stands on an engine
abbrev pub is_on : (number : ℕ) → List (Option ℕ) → Bool
is_on number [] = false
is_on number (e ∷ es) = is_number number e || is_on number es

none-on : (n : ℕ) (es : List (Option ℕ)) → count_on n es ≡ 0 → is_on n es ≡ false
none-on n [] none = refl
none-on n (e ∷ es) none = grind (arith, count-cons, none-on n es)

some-on : (n : ℕ) (es : List (Option ℕ)) → count_on n es ≡ 1 → is_on n es ≡ true
some-on n [] some = absurd (omega (arith, some))
some-on n (e ∷ es) some = grind (arith, count-cons, some-on n es)

-- those that stand on engines are those that run
pub on-runs : (queue : QueueState) (es : List (Option ℕ)) → RunsOnEngines queue es → (n : ℕ) → is_on n es ≡ entry_runs n queue
on-runs queue es on n = grind (arith, some-on, none-on)
