-- Pages of ranges that lie within so many.
use Rattle.std.proofs.Common.{◌≡◌, ℕ, ◌<◌, List, [], ◌∷◌, length, nat_le, nat_lt, Bool, true, ◌&&◌, refl, ◌∙◌, arith, rules}
use Rattle.std.specs.List.{list_all, All}
use Rattle.std.proofs.lemmas.List.Folds.{list_all-append}
use Rattle.std.proofs.lemmas.List.Sums.{AllPass-from_list_all, list_all-from_AllPass}
use Rattle.std.proofs.lemmas.Option.{slice_get-get_or}
use Rattle.press_ticket.specs.declared.page_range.PageRange.{PageRange}
use Rattle.press_ticket.specs.Pages.{pages_of, page_order}
use Rattle.press_ticket.specs.Ticket.{is_within}
use Rattle.press_ticket.proofs.PageLemmas.{length_up, page_up, page_down}

-- both ends of a range below the count, so each page is
pages_below : (count : ℕ) (range : PageRange) → is_within count range ≡ true → list_all (λ p. nat_lt p count) (pages_of range) ≡ true
pages_below count range h = grind (arith, list_all-from_AllPass, slice_get-get_or, page_up, length_up, page_down)

order_below : (count : ℕ) (ranges : List PageRange) → list_all (is_within count) ranges ≡ true → list_all (λ p. nat_lt p count) (page_order ranges) ≡ true
order_below count [] h = refl
order_below count (range ∷ ranges) h =
    let parts : (is_within count range ≡ true) × (list_all (is_within count) ranges ≡ true) = both (is_within count range) (list_all (is_within count) ranges) h in
    list_all-append (λ p. nat_lt p count) (pages_of range) (page_order ranges)
    ∙ (λ j. pages_below count range parts.0 j && order_below count ranges parts.1 j)
  where
    both : (a b : Bool) → (a && b) ≡ true → (a ≡ true) × (b ≡ true)
    both a b h = grind arith

-- each page of the set is one of so many
pages_within : (count : ℕ) (ranges : List PageRange) → list_all (is_within count) ranges ≡ true → All (λ p. p < count) (page_order ranges)
pages_within count ranges h k d short =
    let e = AllPass-from_list_all (λ p. nat_lt p count) (page_order ranges) (order_below count ranges h) k d short in grind (arith, rules, e)

-- the same of a ticket's numbers
pub pages_in_range : (page_count amount : ℕ) (ranges : List PageRange) (named : Bool)
    → (nat_le 1 page_count && nat_le page_count 999 && nat_le 1 amount && nat_le amount 9999 && list_all (is_within page_count) ranges && nat_le (length (page_order ranges)) 999 && named) ≡ true
    → All (λ page. page < page_count) (page_order ranges)
pages_in_range page_count amount ranges named h = grind (arith, pages_within)
