-- The pages of a range, by their number and by their index.
use Rattle.std.proofs.Common.{◌≡◌, ℕ, suc, zero, ◌+◌, ◌-◌, ◌<◌, ◌≤◌, List, [], ◌∷◌, ◌++◌, length, reverse, get_or, take, slice_get, Some, ap, ◌∙◌, arith}
use Rattle.std.proofs.lemmas.List.{length-reverse, get_or-reverse}
use Rattle.std.proofs.lemmas.List.FromFn.{length-range_with_len, get_or-range_with_len}
use Rattle.std.proofs.lemmas.Option.{slice_get-get_or, same_Some}
use Rattle.press_ticket.specs.declared.page_range.PageRange.{PageRange}
use Rattle.press_ticket.specs.Pages.{pages_of}

-- upwards and downwards
pub length_up : (range : PageRange) → range.first ≤ range.last → length (pages_of range) ≡ range.last - range.first + 1
length_up range le = grind (arith, length-range_with_len)

pub length_down : (range : PageRange) → range.last < range.first → length (pages_of range) ≡ range.first - range.last + 1
length_down range lt = grind (arith, length-reverse, length-range_with_len)

some_at : (xs : List ℕ) (i n : ℕ) → i < length xs → get_or xs i 0 ≡ n → slice_get xs i ≡ Some n
some_at xs i n within at = slice_get-get_or xs i 0 within ∙ ap Some at

pub page_up : (range : PageRange) (i : ℕ) → range.first ≤ range.last → i < length (pages_of range)
    → slice_get (pages_of range) i ≡ Some (range.first + i)
page_up range i le within = grind (arith, slice_get, some_at, length-range_with_len, get_or-range_with_len)

pub page_down : (range : PageRange) (i : ℕ) → range.last < range.first → i < length (pages_of range)
    → slice_get (pages_of range) i ≡ Some (range.first - i)
page_down range i lt within =
    grind (arith, length_down, reverse, get_or-reverse, get_or-range_with_len, slice_get, some_at, length-reverse)

-- the first numbers, and one more
pub take_next : (xs : List ℕ) (i n : ℕ) → slice_get xs i ≡ Some n → take (suc i) xs ≡ take i xs ++ n ∷ []
take_next [] i n at = grind (arith, at)
take_next (x ∷ xs) zero n at = ap (λ y. y ∷ []) (same_Some x n at)
take_next (x ∷ xs) (suc i) n at = ap (λ ys. x ∷ ys) (take_next xs i n at)
