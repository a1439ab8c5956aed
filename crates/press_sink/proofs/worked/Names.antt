-- Worked names of sides, and what goes out of outputs, computed.
use Rattle.std.proofs.Common.{◌≡◌, [], ◌∷◌, codes, List, Some, None, refl}
use Rattle.std.specs.Fmt.{digits}
use Rattle.press_bits.specs.Page.{Page}
use Rattle.press_bits.specs.PrintedSheet.{PrintedSheet}
use Rattle.press_sink.specs.Template.{NameParts, side_name, number_after, side_count}
use Rattle.press_sink.specs.Sending.{Output, Deliver, Reply, AtSheet, AtReply, ForMemory, sheets_of, reply_bytes_of, sheet_faults_after, reply_faults_after}

-- page-%d.pbm
abbrev pages : NameParts
pages = record { front = codes "page-"; back = codes ".pbm" }

pub first_side : side_name pages 1 ≡ codes "page-1.pbm"
unfolding digits
first_side = refl

pub tenth_side : side_name pages 10 ≡ codes "page-10.pbm"
unfolding digits
tenth_side = refl

-- a number alone: %d
pub number_alone : side_name (record { front = []; back = [] }) 18446744073709551615 ≡ codes "18446744073709551615"
unfolding digits
number_alone = refl

-- the greatest number stays
pub greatest : number_after 2 18446744073709551615 ≡ 18446744073709551615
greatest = refl

pub one_before : number_after 1 18446744073709551614 ≡ 18446744073709551615
one_before = refl

-- a sheet with a back has two sides
pub two_sides : (front back : Page) → side_count (record { front = front; back = Some back }) ≡ 2
two_sides front back = refl

pub one_side : (front : Page) → side_count (record { front = front; back = None }) ≡ 1
one_side front = refl

-- a reply, a sheet, and a reply again: the sheet, and both replies joined
abbrev mixed : PrintedSheet → List Output
mixed sheet = Reply (codes "one") ∷ Deliver sheet ∷ Reply (codes "two") ∷ []

pub its_sheets : (sheet : PrintedSheet) → sheets_of (mixed sheet) ≡ sheet ∷ []
its_sheets sheet = refl

pub its_replies : (sheet : PrintedSheet) → reply_bytes_of (mixed sheet) ≡ codes "onetwo"
its_replies sheet = refl

-- each sink counts its own fault, and want of memory is none
pub at_a_sheet : sheet_faults_after AtSheet 3 ≡ 4
at_a_sheet = refl

pub at_a_reply : sheet_faults_after AtReply 3 ≡ 3
at_a_reply = refl

pub reply_at_a_reply : reply_faults_after AtReply 0 ≡ 1
reply_at_a_reply = refl

pub for_memory : reply_faults_after ForMemory 0 ≡ 0
for_memory = refl
