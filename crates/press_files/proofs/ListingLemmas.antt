-- Lines of sheets, one sheet after another, and what a stream was that was listed.
use Rattle.std.proofs.Common.{◌≡◌, ◌∙◌, ℕ, ◌+◌, List, [], ◌∷◌, ◌++◌, length, drop, Option, Some, None}
use Rattle.std.proofs.Common.{Result, Ok, Err, is_ok, IfSome, Bool, true, false, codes, refl, sym, ap, arith}
use mathlib.Core.Logic.{∥∥₁_elim}
use Rattle.std.specs.Coded.{Coded-set, coded_list, coded_ℕ}
use Rattle.std.specs.Io.KnownBytes.{Appends}
use Rattle.std.proofs.KnownBytes.{Appends-trans}
use Rattle.std.proofs.Math.Seq.{drop-append_seam}
use Rattle.std.proofs.lemmas.List.{append_assoc, append-nil, length-map, map-append}
use Rattle.press_devices.proofs.WritesLemmas.{prefix_then, prefix_more}
use Rattle.press_devices.specs.Writing.{AppendsPrefix, Writes}
use Rattle.press_bits.specs.PrintedSheet.{PrintedSheet}
use Rattle.press_sink.specs.declared.delivery.Delivery.{Delivery}
use Rattle.press_sink.specs.SinkLog.{under}
use Rattle.press_sink.specs.Sending.{HandsOut, sheets_in}
use Rattle.press_sink.proofs.SendingLemmas.{sheets_in-tagged}
use Rattle.press_stream.specs.declared.fault.JobError.{JobError}
use Rattle.press_stream.specs.State.{JobState}
use Rattle.press_stream.specs.Answers.{Reads, fault_of, ending_by}
use Rattle.press_stream.specs.Printed.{Printed}
use Rattle.press_files.specs.declared.listed_sheet.ListedSheet.{ListedSheet}
use Rattle.press_files.specs.declared.measures.Measures.{Measures}
use Rattle.press_files.specs.Listing.{HasListed, measured_line, sheet_lines, lines_from, ListsBy, took, ListsPrinted, status_of_listing}
use Rattle.press_files.specs.Printing.{machine_of, status_of_fault}

-- the line of a back of which this was kept, if there is one
abbrev pub kept_line : (line : Measures → List ℕ) → Option Measures → List ℕ
kept_line line None = []
kept_line line (Some back) = line back

-- the lines of a sheet are those of what was kept of its sides
pub sheet_lines-kept : (number : ℕ) (one : ListedSheet)
    → measured_line number (codes "front") one.front ++ kept_line (measured_line number (codes "back")) one.back
    ≡ sheet_lines one.sums number one.sheet.value
sheet_lines-kept number one = grind arith

-- the lines of one sheet more
pub lines_from-push : (sums : Bool) (number : ℕ) (sheets : List PrintedSheet) (sheet : PrintedSheet)
    → lines_from sums number (sheets ++ sheet ∷ []) ≡ lines_from sums number sheets ++ sheet_lines sums (number + length sheets) sheet
lines_from-push sums number [] sheet = grind (arith, append-nil)
lines_from-push sums number (first ∷ sheets) sheet = grind (arith, append_assoc, lines_from-push sums (number + 1) sheets sheet)

-- a reader that had no fault was read to its end
pub read_all : (bytes : List ℕ) (left : Option (List ℕ)) (read : List ℕ) → Reads (Some bytes) left None read → read ≡ bytes
read_all bytes left read reads = grind (arith, append-nil)

-- what the sinks took of a stream that was printed, where it had no fault and its listing was written
pub lists-printed : (sums : Bool) (front : List ℕ) (printed : Result JobState JobError) (written : Bool) (known left old new : Option (List ℕ))
    → ListsPrinted sums front printed written known left old new → status_of_listing (fault_of printed) written ≡ 0
    → IfSome known (λ bytes. ListsBy sums (front ++ bytes) old new)
lists-printed sums front printed written known left old new stream h2 = grind (arith, sheets_in-tagged, read_all)

-- ---- what was written of a listing

-- more of it, by whether that was written
pub listed-more : {X E : Type 0} (result : Result X E) (written : Bool) (old middle new : Option (List ℕ)) (bytes more : List ℕ)
    → written ≡ is_ok result → Appends old middle bytes → Writes result middle new more → HasListed written old new (bytes ++ more)
listed-more (Ok value) written old middle new bytes more is wrote writes = rw is (Appends-trans old middle new bytes more wrote writes)
listed-more (Err error) written old middle new bytes more is wrote writes = rw is (prefix_then old middle new bytes more wrote writes)

-- nothing more, after a write failed
pub listed-stays : (written : Bool) (old new : Option (List ℕ)) (bytes more : List ℕ) → written ≡ false → HasListed written old new bytes
    → HasListed written old new (bytes ++ more)
listed-stays written old new bytes more fault listed = grind (arith, prefix_more)

-- more, where all was written before
pub listed-then : {X E : Type 0} (result : Result X E) (written now : Bool) (old middle new : Option (List ℕ)) (bytes more : List ℕ)
    → written ≡ true → now ≡ is_ok result → HasListed written old middle bytes → Writes result middle new more
    → HasListed now old new (bytes ++ more)
listed-then result written now old middle new bytes more ok is listed writes = grind (arith, listed-more)

-- the lines of a sheet more
pub listed-sheet : (sums : Bool) (written : Bool) (old new : Option (List ℕ)) (taken taken' : List Delivery) (one : Delivery) (number : ℕ)
    → taken' ≡ taken ++ one ∷ [] → number ≡ 1 + length taken
    → HasListed written old new (lines_from sums 1 (sheets_in taken) ++ sheet_lines sums number one.sheet)
    → HasListed written old new (lines_from sums 1 (sheets_in taken'))
listed-sheet sums written old new taken taken' one number is counts listed = grind (arith, map-append, length-map, lines_from-push)

-- That all of it was written, or a prefix, is a fact: how it came to be so, there is one way to tell.
wrote-fact : (old new : Option (List ℕ)) (bytes : List ℕ) → ∥ Appends old new bytes ∥₁ → Appends old new bytes
wrote-fact None new bytes wrote = tt
wrote-fact (Some held) None bytes wrote = ∥∥₁_elim wrote (λ p q. absurd p) (λ p. p)
wrote-fact (Some held) (Some holds) bytes wrote = ∥∥₁_elim wrote (Coded-set (coded_list coded_ℕ) _ _) (λ p. p)

prefix-fact : (old new : Option (List ℕ)) (bytes : List ℕ) → ∥ AppendsPrefix old new bytes ∥₁ → AppendsPrefix old new bytes
prefix-fact None new bytes wrote = ([], bytes, refl, tt)
prefix-fact (Some held) None bytes wrote = absurd (∥∥₁_elim wrote (λ p q. absurd p) (λ prefix. prefix.3))
prefix-fact (Some held) (Some holds) bytes wrote =
    let prefix = drop (length held) holds in
    let back = drop (length prefix) bytes in
    let is : (wrote : AppendsPrefix (Some held) (Some holds) bytes) → prefix ≡ wrote.0 =
    λ wrote. ap (drop (length held)) wrote.3 ∙ drop-append_seam held wrote.0 in
    let split : bytes ≡ prefix ++ back =
    ∥∥₁_elim wrote (Coded-set (coded_list coded_ℕ) _ _) (λ wrote.
    let behind : back ≡ wrote.1 = ap (λ (front : List ℕ). drop (length front) bytes) (is wrote) ∙ ap (drop (length wrote.0)) wrote.2 ∙ drop-append_seam wrote.0 wrote.1 in
    wrote.2 ∙ ap (λ (front : List ℕ). front ++ wrote.1) (sym (is wrote)) ∙ ap (λ (rest : List ℕ). prefix ++ rest) (sym behind)) in
    let holding : holds ≡ held ++ prefix =
    ∥∥₁_elim wrote (Coded-set (coded_list coded_ℕ) _ _) (λ wrote. wrote.3 ∙ ap (λ (front : List ℕ). held ++ front) (sym (is wrote))) in
    (prefix, back, split, holding)

listed-fact : (written : Bool) (old new : Option (List ℕ)) (bytes : List ℕ) → ∥ HasListed written old new bytes ∥₁ → HasListed written old new bytes
listed-fact written old new bytes listed = grind (arith, wrote-fact, prefix-fact)

-- what the sinks tell, and what is listed of it
pub lists-stream : (sums : Bool) (front : List ℕ) (printed : Result JobState JobError) (written : Bool)
    (had left old new : Option (List ℕ)) (first last : List Delivery) (nothing all replies : List ℕ)
    → first ≡ [] → nothing ≡ [] → all ≡ replies
    → HandsOut (ending_by (fault_of printed)) (Printed front had left (fault_of printed) (machine_of printed))
    (under 0 (took first nothing) (took last all))
    → ∥ HasListed written old new (lines_from sums 1 (sheets_in last) ++ replies) ∥₁ → ListsPrinted sums front printed written had left old new
lists-stream sums front printed written had left old new first last nothing all replies p q s prints listed = grind (arith, listed-fact)

-- the status of a stream and its listing
pub status-written : (printed : Result JobState JobError) (written : Bool) (status : ℕ) → written ≡ true
    → status ≡ status_of_fault (fault_of printed) → status ≡ status_of_listing (fault_of printed) written
status-written printed written status is told = rw is told
