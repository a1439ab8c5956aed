-- What a ticket asks for (CIP4 JDF 1.5, digital printing; this profile).
use Rattle.std.specs.Prelude.{ℕ, Bool, ◌&&◌, List, nat_le, nat_lt, length}
use Rattle.std.specs.List.{list_all}
use Rattle.press_units.specs.declared.position.Resolution.{Resolution}
use Rattle.press_ticket.specs.declared.media.Media.{Media}
use Rattle.press_ticket.specs.declared.media.Sides.{Sides}
use Rattle.press_ticket.specs.declared.page_range.PageRange.{PageRange}
use Rattle.press_ticket.specs.Members.{is_job_id}
use Rattle.press_ticket.specs.Pages.{page_order}

-- A job of so many pages: the ranges whose pages make a set, on which medium and which sides; so many sets, whole ones one
-- after another where they are collated; and the resolution of its images and pages.
pub record JobTicket : Type 0 where
  pub job_id : List ℕ
  pub page_count : ℕ
  pub amount : ℕ
  pub run_list : List PageRange
  pub media : Media
  pub sides : Sides
  pub collate : Bool
  pub resolution : Resolution

-- both ends are pages of so many
abbrev pub is_within : ℕ → PageRange → Bool
is_within page_count range = nat_lt range.first page_count && nat_lt range.last page_count

-- the most pages of a job, and of a set
abbrev pub max_pages : ℕ
max_pages = 999

-- the most sets of a job
abbrev pub max_amount : ℕ
max_amount = 9999

-- Whether it keeps the limits: from 1 to the most pages and sets, each page of the set one of the pages, no more of them than
-- the most, and a name of 1 to 63 printable bytes.
abbrev pub is_in_range : JobTicket → Bool
is_in_range ticket =
    nat_le 1 ticket.page_count && nat_le ticket.page_count max_pages
    && nat_le 1 ticket.amount && nat_le ticket.amount max_amount
    && list_all (is_within ticket.page_count) ticket.run_list && nat_le (length (page_order ticket.run_list)) max_pages
    && is_job_id ticket.job_id
