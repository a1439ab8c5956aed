-- What reading a header byte by byte answers.
use Rattle.std.proofs.Common.{◌≡◌, ℕ, ◌+◌, ◌<◌, ◌≤◌, List, [], ◌∷◌, ◌++◌, length, get_or, Option, Some, Result, Err, IfErr, IsErrAnd, refl, sym, ap, ◌∙◌, arith, subst, ◌⊎◌}
use Rattle.std.proofs.lemmas.Result.{err_from_is_err_and}
use Rattle.std.specs.Io.KnownBytes.{Consumes}
use Rattle.std.proofs.KnownBytes.{Consumes-trans}
use Rattle.press_pbm.specs.Header.{BeginsHeader}
use Rattle.press_pbm.specs.File.{Refused, IsNoHeader}
use Rattle.press_pbm.specs.Reading.{StopsShort, ReadHeader, place_after, least_behind}
use Rattle.press_pbm.specs.declared.fault.ReadPbmError.{ReadPbmError}
use Rattle.press_pbm.specs.declared.place.Place.{Place}
use Rattle.press_pbm.specs.declared.place.Place.TheVariants as at
use Rattle.press_pbm.proofs.HeaderLemmas.{run, run-then, run-byte, cut_header, found}

pub one_byte : (bytes : List ℕ) → length bytes ≡ 1 → bytes ≡ get_or bytes 0 0 ∷ []
one_byte [] one = absurd (omega arith)
one_byte (byte ∷ []) one = refl
one_byte (byte ∷ other ∷ bytes) one = absurd (omega arith)

no_byte : (bytes : List ℕ) → length bytes < 1 → bytes ≡ []
no_byte [] none = refl
no_byte (byte ∷ bytes) none = absurd (omega arith)

-- and a call later, where a device that failed stays so
pub or_both : {E F A B C : Type 0} → (E → F) → E ⊎ A → F ⊎ B → (A → B → C) → F ⊎ C
or_both stays h2 other then = grind arith

-- what an exit by `?` answers
pub passed_on : {X : Type 0} (result : Result X ReadPbmError) (error : ReadPbmError) (P : ReadPbmError → Type 0) → IsErrAnd result (λ e. e ≡ error) → P error → IfErr result P
passed_on result error P is holds = let p = err_from_is_err_and result is in subst (λ r. IfErr r P) (sym (p.1 ∙ ap Err p.2)) holds

-- the bytes so far, and one more
pub one_more : (had middle left : Option (List ℕ)) (read buffer : List ℕ) → Consumes had middle read → length buffer ≡ 1
    → Consumes middle left buffer → Consumes had left (read ++ get_or buffer 0 0 ∷ [])
one_more had middle left read buffer first one more = subst (λ l. Consumes had left (read ++ l)) (one_byte buffer one) (Consumes-trans had middle left read buffer first more)

-- the next byte was not read
pub stopped_in_header : (error : ReadPbmError) (had middle left : Option (List ℕ)) (read : List ℕ) (place : Place) (wanted : ℕ) → Consumes had middle read → run at.Start read ≡ Some place →
    length read + least_behind place ≤ 65536 → 0 < least_behind place → wanted ≡ 1 → StopsShort error wanted middle left → Refused error had left
stopped_in_header error had middle left read place wanted first is short some one stopped = grind (arith, no_byte, cut_header)

-- the bytes so far and one more lead to the next place
pub run-more : (read : List ℕ) (byte : ℕ) (place : Place) (next : Option Place) (after : Place) → run at.Start read ≡ Some place
    → place_after place byte ≡ next → next ≡ Some after → run at.Start (read ++ byte ∷ []) ≡ Some after
run-more read byte place next after is gives some = run-then at.Start place (Some after) read (byte ∷ []) is (run-byte place after (Some after) byte [] (gives ∙ some) refl)

-- a header was read to its end
pub read_header_of : (had left : Option (List ℕ)) (bytes : List ℕ) (width height : ℕ) → run at.Start bytes ≡ Some (at.End width height)
    → length bytes ≤ 65536 → Consumes had left bytes → ReadHeader (width, height) had left
read_header_of had left bytes width height is short reads = grind (arith, found bytes width height is short)

-- one more byte was read, and no header begins so
pub no_header_read : (had left : Option (List ℕ)) (read : List ℕ) (byte : ℕ) (place : Place) → run at.Start read ≡ Some place → length read + least_behind place ≤ 65536 → 0 < least_behind place →
    Consumes had left (read ++ byte ∷ []) → (BeginsHeader (read ++ byte ∷ []) → ⊥) → (bytes : List ℕ) × Consumes had left bytes × IsNoHeader bytes
no_header_read had left read byte place is short some reads none =
    (read ++ byte ∷ [], reads, record { prefix = read; byte = byte; ends = refl; goes_on = cut_header read place is short some; none = none })
