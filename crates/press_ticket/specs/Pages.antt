-- Which pages a ticket names, and in which order.
use Rattle.std.specs.Prelude.{ℕ, suc, ◌+◌, ◌-◌, ℤ, pos, negsuc, List, reverse, nat_le, nat_lt, if◌then◌else◌, Option, Some, None}
use Rattle.std.specs.List.{flat_map, range_with_len}
use Rattle.press_ticket.specs.declared.page_range.PageRange.{PageRange}

-- The page that a number names, of so many: a negative number counts from the end, -1 the last.
abbrev pub page_at : ℕ → ℤ → Option ℕ
page_at page_count (pos n) = if nat_lt n page_count then Some n else None
page_at page_count (negsuc n) = if nat_lt n page_count then Some (page_count - suc n) else None

-- the pages from the first to the last, upwards, or downwards where the last is less
abbrev pub pages_of : PageRange → List ℕ
pages_of range =
    if nat_le range.first range.last then range_with_len range.first (range.last - range.first + 1)
    else reverse (range_with_len range.last (range.first - range.last + 1))

-- the pages of all ranges, in order
abbrev pub page_order : List PageRange → List ℕ
page_order ranges = flat_map pages_of ranges
