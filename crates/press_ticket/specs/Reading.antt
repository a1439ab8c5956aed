-- Which JSON values are tickets, and why the others are not (this profile).
use Rattle.std.specs.Prelude.{ℕ, ◌&&◌, ℤ, pos, negsuc, List, [], ◌∷◌, Bool, true, length, nat_le, codes, bytes_eq, if◌then◌else◌}
use Rattle.std.specs.Prelude.{Option, Some, None, option_and_then, option_map, ok_or, Result, Ok, Err}
use Rattle.std.specs.Option.{option_map_or}
use Rattle.std.specs.Str.{is_utf8}
use Rattle.serde_json.specs.Data.{Data, Members}
use Rattle.serde_json.specs.Find.{get, as_bool, as_object, as_str}
use Rattle.serde_json.specs.Read.{read}
use Rattle.press_units.specs.declared.position.Resolution.{Resolution}
use Rattle.press_units.specs.declared.position.Resolution.TheVariants.{Dpi300}
use Rattle.press_ticket.specs.declared.fault.TicketError.{TicketError}
use Rattle.press_ticket.specs.declared.fault.TicketError.TheVariants.{NotJson, NotProfile, WrongProcess, BadRange, BadAmount}
use Rattle.press_ticket.specs.declared.media.Media.{Media}
use Rattle.press_ticket.specs.declared.media.Media.TheVariants.{Letter}
use Rattle.press_ticket.specs.declared.media.Sides.{Sides}
use Rattle.press_ticket.specs.declared.media.Sides.TheVariants.{OneSidedFront}
use Rattle.press_ticket.specs.declared.page_range.PageRange.{PageRange}
use Rattle.press_ticket.specs.Members.{least_unknown, as_whole, as_version, as_job_id, as_run_list, as_media, as_sides, as_resolution}
use Rattle.press_ticket.specs.Pages.{page_at, page_order}
use Rattle.press_ticket.specs.Ticket.{JobTicket, max_pages, max_amount}

abbrev pub Read : Type 0 → Type 0
Read A = Result A TicketError

-- the first refusal counts
abbrev pub then_read : {A B : Type 0} → Read A → (A → Read B) → Read B
then_read (Err error) read = Err error
then_read (Ok value) read = read value

-- a member that has to be there, and to have a value of its kind
abbrev pub required_member : {A : Type 0} → List ℕ → (Data → Option A) → Data → Read A
required_member key as_kind value = ok_or (option_and_then as_kind (get key value)) (NotProfile key)

-- a member that may be absent
abbrev pub optional_member : {A : Type 0} → List ℕ → (Data → Option A) → A → Data → Read A
optional_member key as_kind default value = ok_or (option_map_or as_kind (get key value) (Some default)) (NotProfile key)

-- what the required members say, before any number is held against its range
pub record Required : Type 0 where
  pub process : List ℕ
  pub job_id : List ℕ
  pub page_count : ℤ
  pub amount : ℤ

abbrev pub required_of : Data → Read Required
required_of value =
    then_read (required_member (codes "Version") as_version value) (λ version.
    then_read (required_member (codes "Type") as_str value) (λ process.
    then_read (required_member (codes "JobID") as_job_id value) (λ job_id.
    then_read (required_member (codes "NPage") as_whole value) (λ page_count.
    then_read (required_member (codes "Amount") as_whole value) (λ amount.
    Ok (record { process = process; job_id = job_id; page_count = page_count; amount = amount }))))))

-- what the optional members say, or what holds without them
pub record Optional : Type 0 where
  pub run_list : List (ℤ × ℤ)
  pub media : Media
  pub sides : Sides
  pub collate : Bool
  pub resolution : Resolution

-- all pages in order
abbrev pub whole_set : List (ℤ × ℤ)
whole_set = (pos 0, negsuc 0) ∷ []

abbrev pub run_list_of : Data → Read (List (ℤ × ℤ))
run_list_of value = optional_member (codes "RunList") as_run_list whole_set value

abbrev pub optional_of : Data → Read Optional
optional_of value =
    then_read (run_list_of value) (λ run_list.
    then_read (optional_member (codes "Media") as_media Letter value) (λ media.
    then_read (optional_member (codes "Sides") as_sides OneSidedFront value) (λ sides.
    then_read (optional_member (codes "Collate") as_bool true value) (λ collate.
    then_read (optional_member (codes "Resolution") as_resolution Dpi300 value) (λ resolution.
    Ok (record { run_list = run_list; media = media; sides = sides; collate = collate; resolution = resolution }))))))

-- a number from 1 to the most
abbrev pub up_to : ℕ → ℤ → Option ℕ
up_to most (pos n) = if nat_le 1 n && nat_le n most then Some n else None
up_to most (negsuc n) = None

-- a pair of pages, of so many
abbrev pub range_of : ℕ → ℤ × ℤ → Option PageRange
range_of page_count pair =
    option_and_then
    (λ first. option_map (λ last. record { first = first; last = last }) (page_at page_count pair.1))
    (page_at page_count pair.0)

abbrev pub ranges_of : ℕ → List (ℤ × ℤ) → Option (List PageRange)
ranges_of page_count [] = Some []
ranges_of page_count (pair ∷ pairs) =
    option_and_then (λ range. option_map (λ ranges. range ∷ ranges) (ranges_of page_count pairs)) (range_of page_count pair)

-- no more pages in all than the most
abbrev pub if_few : List PageRange → Option (List PageRange)
if_few ranges = if nat_le (length (page_order ranges)) max_pages then Some ranges else None

-- The process, then the pages, then the amount.
abbrev pub in_range : Required → Optional → Read JobTicket
in_range required optional =
    if bytes_eq required.process (codes "DigitalPrinting") then
    then_read (ok_or (up_to max_pages required.page_count) BadRange) (λ page_count.
    then_read (ok_or (option_and_then if_few (ranges_of page_count optional.run_list)) BadRange) (λ run_list.
    then_read (ok_or (up_to max_amount required.amount) BadAmount) (λ amount.
    Ok (record {
      job_id = required.job_id;
      page_count = page_count;
      amount = amount;
      run_list = run_list;
      media = optional.media;
      sides = optional.sides;
      collate = optional.collate;
      resolution = optional.resolution;
    }))))
    else Err WrongProcess

abbrev pub known_keys : Members → Read (Unit {0})
known_keys members = option_map_or (λ key. Err (NotProfile key)) (least_unknown members) (Ok tt)

-- A value: 601 where it is no object; 602 with the least unknown key, else with the first key of the table whose member is
-- absent or has no value of its kind; 603 another process; 604 pages; 605 the amount.
abbrev pub ticket_from : Data → Read JobTicket
ticket_from value =
    then_read (ok_or (as_object value) NotJson) (λ members.
    then_read (known_keys members) (λ _.
    then_read (required_of value) (λ required.
    then_read (optional_of value) (λ optional.
    in_range required optional))))

-- the value of a text: it is UTF-8, and JSON that nests at most 127 deep
abbrev pub json_of : List ℕ → Option Data
json_of bytes = if is_utf8 bytes then read bytes else None

-- A text: 601 where it is no JSON.
abbrev pub ticket_in : List ℕ → Read JobTicket
ticket_in bytes = then_read (ok_or (json_of bytes) NotJson) ticket_from
