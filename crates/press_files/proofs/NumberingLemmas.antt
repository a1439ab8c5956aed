-- Numbers of sheets among those of their entry, one sheet after another.
use Rattle.std.proofs.Common.{◌≡◌, ◌⊎◌, ◌∙◌, ◌≤◌, ℕ, ◌+◌, List, [], ◌∷◌, ◌++◌, length, nat_eq, Bool, is_some}
use Rattle.std.proofs.Common.{false, Some, inl, inr, refl, ap, arith, if◌then◌else◌}
use Rattle.std.specs.Prelude.{cond, is_ok, IsOk, Result}
use Rattle.std.specs.Map.{lookup}
use Rattle.std.proofs.lemmas.List.{map_push}
use Rattle.press_files.specs.declared.entry_sheets.EntrySheet.{EntrySheet}
use Rattle.press_bits.specs.PrintedSheet.{PrintedSheet}
use Rattle.press_sink.specs.Template.{side_count}
use Rattle.press_sink.specs.declared.delivery.Delivery.{Delivery}
use Rattle.press_files.specs.declared.entry_sheets.EntryCount.{EntryCount}
use Rattle.press_files.specs.EntryKept.{ArePlaced, count_in, entries_of, entry_deliveries_of, numbers_of}
use Rattle.press_files.specs.Numbering.{occurrences_of, numbers_after, sides_of}

-- an entry stands in a list no more often than the list is long
pub occurrences_of-within : (entry : ℕ) (entries : List ℕ) → occurrences_of entry entries ≤ length entries
occurrences_of-within entry [] = omega arith
occurrences_of-within entry (one ∷ entries) = grind (arith, occurrences_of-within entry entries)

-- one more entry
pub occurrences_of-push : (entry : ℕ) (entries : List ℕ) (one : ℕ)
    → occurrences_of entry (entries ++ one ∷ []) ≡ occurrences_of entry entries + (if nat_eq entry one then 1 else 0)
occurrences_of-push entry [] one = omega arith
occurrences_of-push entry (first ∷ entries) one = grind (arith, occurrences_of-push entry entries one)

-- and its number
pub numbers-push : (before entries : List ℕ) (one : ℕ)
    → numbers_after before (entries ++ one ∷ [])
    ≡ numbers_after before entries ++ (occurrences_of one entries + occurrences_of one before + 1) ∷ []
numbers-push before [] one = grind arith
numbers-push before (first ∷ entries) one = grind (arith, numbers-push (first ∷ before) entries one)

-- a sheet more, under the next number of its entry
pub numbered-push : (sheets : List EntrySheet) (one : EntrySheet) → numbers_of sheets ≡ numbers_after [] (entries_of sheets)
    → one.number ≡ occurrences_of one.sheet.tag (entries_of sheets) + 1
    → numbers_of (sheets ++ one ∷ []) ≡ numbers_after [] (entries_of (sheets ++ one ∷ []))
numbered-push sheets one numbered next = grind (arith, map_push, numbers-push)

-- the count of the entry that came
pub occurrences_of-same : (entry : ℕ) (entries : List ℕ) → occurrences_of entry (entries ++ entry ∷ []) ≡ occurrences_of entry entries + 1
occurrences_of-same entry entries = grind (arith, occurrences_of-push)

-- and of another one
pub occurrences_of-other : (entry one : ℕ) (entries : List ℕ) → nat_eq entry one ≡ false
    → occurrences_of entry (entries ++ one ∷ []) ≡ occurrences_of entry entries
occurrences_of-other entry one entries other = grind (arith, occurrences_of-push)

-- what is counted of entries, one of which has another count
pub counts-push : (of : EntryCount → ℕ) (amount next : ℕ → ℕ) (before after : List (ℕ × EntryCount)) (one : ℕ) (n : EntryCount)
    → ((entry : ℕ) → of (count_in entry before) ≡ amount entry)
    → ((entry : ℕ) → lookup (nat_eq entry) after ≡ cond (nat_eq one entry) (Some n) (lookup (nat_eq entry) before))
    → of n ≡ next one → ((entry : ℕ) → nat_eq entry one ≡ false → next entry ≡ amount entry) → (entry : ℕ)
    → of (count_in entry after) ≡ next entry
counts-push of amount next before after one n counted updates more others entry = grind arith

-- ---- the sides of entries

two-at-most : (b : Bool) → (if b then 2 else 1) ≤ 2
two-at-most b = grind arith

pub side_count-small : (sheet : PrintedSheet) → side_count sheet ≤ 2
side_count-small sheet = two-at-most (is_some sheet.back)

-- an entry has no more sides than twice as many as there are deliveries
pub sides_of-within : (entry : ℕ) (deliveries : List Delivery) → sides_of entry deliveries ≤ length deliveries + length deliveries
sides_of-within entry [] = omega arith
sides_of-within entry (one ∷ deliveries) = grind (arith, sides_of-within entry deliveries)

-- one more sheet
sides_of-push : (entry : ℕ) (deliveries : List Delivery) (one : Delivery)
    → sides_of entry (deliveries ++ one ∷ []) ≡ sides_of entry deliveries + (if nat_eq entry one.tag then side_count one.sheet else 0)
sides_of-push entry [] one = omega arith
sides_of-push entry (first ∷ deliveries) one = grind (arith, sides_of-push entry deliveries one)

pub sides_of-same : (deliveries : List Delivery) (one : Delivery)
    → sides_of one.tag (deliveries ++ one ∷ []) ≡ sides_of one.tag deliveries + side_count one.sheet
sides_of-same deliveries one = grind (arith, sides_of-push)

pub sides_of-other : (entry : ℕ) (deliveries : List Delivery) (one : Delivery) → nat_eq entry one.tag ≡ false
    → sides_of entry (deliveries ++ one ∷ []) ≡ sides_of entry deliveries
sides_of-other entry deliveries one other = grind (arith, sides_of-push)

-- ---- places

-- what stands in a list that ends with an item is that one, or stands before it
last_or_before : {A : Type 0} (xs : List A) (x : A) (front : List A) (y : A) (behind : List A) → xs ++ x ∷ [] ≡ front ++ y ∷ behind
    → ((front ≡ xs) × (y ≡ x)) ⊎ ((rest : List A) × (xs ≡ front ++ y ∷ rest))
last_or_before [] x [] y behind is = inl (refl, cc)
last_or_before [] x (z ∷ []) y behind is = absurd cc
last_or_before [] x (z ∷ w ∷ front) y behind is = absurd cc
last_or_before (z ∷ xs) x [] y behind is = inr (xs, cc)
last_or_before (z ∷ xs) x (w ∷ front) y behind is = grind (arith, last_or_before xs x front y behind (cc))

-- one more sheet stands under its numbers
pub placed-push : (sheets : List EntrySheet) (one : EntrySheet) → ArePlaced sheets → one.number ≡ occurrences_of one.sheet.tag (entries_of sheets) + 1
    → one.side ≡ sides_of one.sheet.tag (entry_deliveries_of sheets) + 1 → ArePlaced (sheets ++ one ∷ [])
placed-push sheets one placed number side front each behind is =
    elim (last_or_before sheets one front each behind is) [
      | inl last ↦ rw (last.0, last.1) (number, side)
      | inr before ↦ placed front each before.0 before.1
    ]

-- what a push leaves that had room
pub pushed : {X A E : Type 0} (result : Result A E) (xs new : List X) (x : X) → new ≡ (if is_ok result then xs ++ x ∷ [] else xs)
    → IsOk result → new ≡ xs ++ x ∷ []
pushed result xs new x is ok = is ∙ ap (λ (b : Bool). if b then xs ++ x ∷ [] else xs) ok
