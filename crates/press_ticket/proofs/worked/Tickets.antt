-- Tickets and refusals of some values, computed.
use Rattle.std.proofs.Common.{◌≡◌, ℕ, List, [], ◌∷◌, map, replicate, true, codes, Ok, Err, refl}
use Rattle.serde_json.specs.Data.{unsigned, Data, null, boolean, number, string, array, object, no_items, item, Members, no_members, member}
use Rattle.press_units.specs.declared.position.Resolution.{Resolution}
use Rattle.press_units.specs.declared.position.Resolution.TheVariants.{Dpi300, Dpi600}
use Rattle.press_ticket.specs.declared.fault.TicketError.TheVariants.{NotJson, NotProfile, WrongProcess, BadRange, BadAmount}
use Rattle.press_ticket.specs.declared.media.Media.TheVariants.{Letter}
use Rattle.press_ticket.specs.declared.media.Sides.TheVariants.{TwoSidedHeadToHead}
use Rattle.press_ticket.specs.Reading.{Read, then_read, ticket_from}

-- two collated sets of three pages; the amount, the process and a run list vary
abbrev last_members : List ℕ → Members
last_members process =
    member (codes "Sides") (string (codes "TwoSidedHeadToHead")) (member (codes "Type") (string process)
    (member (codes "Version") (string (codes "1.5")) no_members))

abbrev ticket_of : ℕ → List ℕ → Data
ticket_of amount process =
    object (member (codes "Amount") (number (unsigned amount)) (member (codes "Collate") (boolean true)
    (member (codes "JobID") (string (codes "J")) (member (codes "NPage") (number (unsigned 3)) (last_members process)))))

abbrev ticket_of_run_list : Data → Data
ticket_of_run_list run_list =
    object (member (codes "Amount") (number (unsigned 2)) (member (codes "JobID") (string (codes "J"))
    (member (codes "NPage") (number (unsigned 3)) (member (codes "RunList") run_list (last_members (codes "DigitalPrinting"))))))

pub two_sets : ticket_from (ticket_of 2 (codes "DigitalPrinting")) ≡ Ok (record {
  job_id = codes "J";
  page_count = 3;
  amount = 2;
  run_list = record { first = 0; last = 2 } ∷ [];
  media = Letter;
  sides = TwoSidedHeadToHead;
  collate = true;
  resolution = Dpi300;
})
two_sets = refl

pub no_set : ticket_from (ticket_of 0 (codes "DigitalPrinting")) ≡ Err BadAmount
no_set = refl

pub too_many_sets : ticket_from (ticket_of 10000 (codes "DigitalPrinting")) ≡ Err BadAmount
too_many_sets = refl

pub folding : ticket_from (ticket_of 0 (codes "Folding")) ≡ Err WrongProcess
folding = refl

-- pages count from 0
pub past_the_last_page :
    ticket_from (ticket_of_run_list (array (item (array (item (number (unsigned 3)) (item (number (unsigned 3)) no_items))) no_items))) ≡ Err BadRange
past_the_last_page = refl

pub no_pair : ticket_from (ticket_of_run_list (array no_items)) ≡ Err (NotProfile (codes "RunList"))
no_pair = refl

-- a ticket with a resolution, and with what is none
abbrev ticket_at : Data → Data
ticket_at resolution =
    object (member (codes "Amount") (number (unsigned 2)) (member (codes "JobID") (string (codes "J"))
    (member (codes "NPage") (number (unsigned 3)) (member (codes "Resolution") resolution (last_members (codes "DigitalPrinting"))))))

abbrev resolution_read : Data → Read Resolution
resolution_read value = then_read (ticket_from (ticket_at value)) (λ ticket. Ok ticket.resolution)

pub resolutions_of_tickets : map resolution_read (number (unsigned 300) ∷ number (unsigned 600) ∷ []) ≡ Ok Dpi300 ∷ Ok Dpi600 ∷ []
resolutions_of_tickets = refl

pub no_resolution :
    map resolution_read (number (unsigned 450) ∷ number (unsigned 0) ∷ string (codes "600") ∷ null ∷ boolean true ∷ [])
    ≡ replicate 5 (Err (NotProfile (codes "Resolution")))
no_resolution = refl

-- it is the last of the keys: a truth value that is none comes before it
pub after_collate :
    ticket_from (object (member (codes "Amount") (number (unsigned 2)) (member (codes "Collate") null (member (codes "JobID") (string (codes "J"))
    (member (codes "NPage") (number (unsigned 3)) (member (codes "Resolution") null (last_members (codes "DigitalPrinting"))))))))
    ≡ Err (NotProfile (codes "Collate"))
after_collate = refl

pub without_a_name :
    ticket_from (object (member (codes "Amount") (number (unsigned 2)) (member (codes "NPage") (number (unsigned 3)) (last_members (codes "DigitalPrinting")))))
    ≡ Err (NotProfile (codes "JobID"))
without_a_name = refl

pub unknown_keys :
    ticket_from (object (member (codes "Zoom") null (member (codes "amount") null no_members))) ≡ Err (NotProfile (codes "Zoom"))
unknown_keys = refl

pub no_object : ticket_from (array no_items) ≡ Err NotJson
no_object = refl
