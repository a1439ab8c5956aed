-- How many entries pass a test, after changes of the entries.
use Rattle.std.proofs.Common.{◌≡◌, ℕ, zero, suc, ◌+◌, ◌≤◌, List, [], ◌∷◌, Bool, true, false, nat_eq, Some, cond, filter, length, insert, refl, arith}
use Rattle.std.specs.Map.{lookup}
use Rattle.std.proofs.lemmas.Bool.{eqb-true}
use Rattle.std.proofs.lemmas.Option.{same_Some}
use Rattle.press_queue.specs.declared.entry.Entry.{Entry}
use Rattle.press_queue.specs.Entries.{with_entry, without_entry}

abbrev pub one : Bool → ℕ
one true = 1
one false = 0

abbrev pub count_of : (ℕ × Entry → Bool) → List (ℕ × Entry) → ℕ
count_of p es = length (filter p es)

count_cond : (b : Bool) (e : ℕ × Entry) (es : List (ℕ × Entry)) → length (cond b (e ∷ es) es) ≡ one b + length es
count_cond b e es = grind arith

count-cons : (p : ℕ × Entry → Bool) (e : ℕ × Entry) (es : List (ℕ × Entry)) → count_of p (e ∷ es) ≡ one (p e) + count_of p es
count-cons p e es = count_cond (p e) e (filter p es)

-- all of them pass this one
pub count-all : (es : List (ℕ × Entry)) → count_of (λ e. true) es ≡ length es
count-all [] = refl
count-all (e ∷ es) = omega (arith, count-all es)

-- another entry under a number: the one before counts no more, and the new one does
pub count-with_entry : (p : ℕ × Entry → Bool) (number : ℕ) (old new : Entry) (es : List (ℕ × Entry)) → lookup (nat_eq number) es ≡ Some old
    → count_of p (with_entry number new es) + one (p (number, old)) ≡ count_of p es + one (p (number, new))
count-with_entry p number old new [] there = absurd (cc)
count-with_entry p number old new (e ∷ es) there = grind (arith, count-cons, same_Some, eqb-true, count-with_entry p number old new es)

-- without the entry of a number: it counts no more
pub count-without : (p : ℕ × Entry → Bool) (number : ℕ) (old : Entry) (es : List (ℕ × Entry)) → lookup (nat_eq number) es ≡ Some old
    → count_of p (without_entry number es) + one (p (number, old)) ≡ count_of p es
count-without p number old [] there = absurd (cc)
count-without p number old (e ∷ es) there = grind (arith, count-cons, same_Some, eqb-true, count-without p number old es)

-- with one more entry, at any index
pub count-insert : (p : ℕ × Entry → Bool) (i : ℕ) (e : ℕ × Entry) (es : List (ℕ × Entry)) → count_of p (insert es i e) ≡ count_of p es + one (p e)
count-insert p zero e es = omega (arith, count-cons p e es)
count-insert p (suc i) e [] = omega (arith, count-cons p e [])
count-insert p (suc i) e (x ∷ es) = omega (arith, count-cons p x es, count-cons p x (insert es i e), count-insert p i e es)

-- of two tests of an entry, of which one implies the other
pub one_le : (b c : Bool) → (b ≡ true → c ≡ true) → one b ≤ one c
one_le b c h = grind arith

-- of a test that only entries pass that pass another
pub count_le : (p q : ℕ × Entry → Bool) → ((e : ℕ × Entry) → p e ≡ true → q e ≡ true) → (es : List (ℕ × Entry)) → count_of p es ≤ count_of q es
count_le p q h [] = omega arith
count_le p q h (e ∷ es) = omega (arith, count-cons p e es, count-cons q e es, one_le (p e) (q e) (h e), count_le p q h es)

-- of some of the entries
pub count-filter : (p q : ℕ × Entry → Bool) (es : List (ℕ × Entry)) → count_of p (filter q es) ≤ count_of p es
count-filter p q [] = omega arith
count-filter p q (e ∷ es) = grind (arith, count-cons, count-filter p q es)

-- another entry under a number, whichever stood there, counts once at most
pub count-with_entry_le : (p : ℕ × Entry → Bool) (number : ℕ) (new : Entry) (es : List (ℕ × Entry)) → count_of p (with_entry number new es) ≤ count_of p es + one (p (number, new))
count-with_entry_le p number new [] = omega arith
count-with_entry_le p number new (e ∷ es) = grind (arith, count-cons, eqb-true, count-with_entry_le p number new es)
