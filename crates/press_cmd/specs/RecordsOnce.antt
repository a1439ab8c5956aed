-- Bytes are the records of at most one list of commands.
use Rattle.std.proofs.Common.{◌≡◌, ◌∙◌, ℕ, List, [], ◌∷◌, ◌++◌, length, take, drop, refl, sym, ap, arith, append_assoc}
use Rattle.std.specs.List.{AllByRecursion, AllByRecursion-prop}
use Rattle.std.specs.Coded.{Coded-set, coded_list, coded_ℕ}
use Rattle.std.proofs.Math.Seq.{take-append_seam, drop-append_seam}
use Rattle.std.proofs.Props.{props}
use mathlib.Core.HLevel.{is_prop→PathP}
use Rattle.byteorder.specs.Endian.{big_bytes, big_number}
use Rattle.byteorder.specs.Numbers.{big_number-reads_back}
use Rattle.press_cmd.specs.Token.{Token, Escape, Grouped, Ungrouped, Control, Text, Broken, Uel, PjlLine, ForeignByte, bytes_of}
use Rattle.press_cmd.specs.Stored.{token_from, byte_at_0, IsSound}
use Rattle.press_cmd.specs.StoredLemmas.{stored-read}
use Rattle.press_cmd.specs.CommandLengths.{sound-fits}
use Rattle.press_cmd.specs.Records.{record_of, encoded, AreRecords}

-- the count in front of a command is how many bytes it has
pub count-read : (command : Token) (following : List ℕ) → IsSound command
    → big_number 4 (drop 1 (record_of command ++ following)) ≡ length (bytes_of command)
count-read command following sound =
    let fits = sound-fits command sound in
    ap (big_number 4) (append_assoc (big_bytes 4 (length (bytes_of command))) (bytes_of command) following)
    ∙ big_number-reads_back 4 (length (bytes_of command)) (bytes_of command ++ following) (omega (arith, fits))

-- records that begin alike begin with the same command
same-first : (command other : Token) (more others : List ℕ) → IsSound command → IsSound other
    → record_of command ++ more ≡ record_of other ++ others → (command ≡ other) × (more ≡ others)
same-first command other more others sound is same =
    let count = sym (count-read command more sound) ∙ ap (λ bytes. big_number 4 (drop 1 bytes)) same ∙ count-read other others is in
    let bytes = sym (take-append_seam (bytes_of command) more) ∙ (λ i. take (count i) (drop 5 (same i))) ∙ take-append_seam (bytes_of other) others in (
      sym (stored-read command sound) ∙ (λ i. token_from (byte_at_0 (same i)) (bytes i)) ∙ stored-read other is,
      sym (drop-append_seam (bytes_of command) more) ∙ (λ i. drop (count i) (drop 5 (same i))) ∙ drop-append_seam (bytes_of other) others,
    )

same-commands : (commands others : List Token) → AllByRecursion IsSound commands → AllByRecursion IsSound others
    → encoded commands ≡ encoded others → commands ≡ others
same-commands [] [] sound is same = refl
same-commands [] (other ∷ others) sound is same = absurd (cc)
same-commands (command ∷ commands) [] sound is same = absurd (cc)
same-commands (command ∷ commands) (other ∷ others) sound is same =
    let first = same-first command other (encoded commands) (encoded others) sound.0 is.0 same in
    λ i. first.0 i ∷ same-commands commands others sound.1 is.1 first.1 i

-- the commands of records are those that the bytes are spelled from
pub the-commands : {bytes : List ℕ} (records : AreRecords bytes) (commands : List Token) → bytes ≡ encoded commands
    → AllByRecursion IsSound commands → records.commands ≡ commands
the-commands records commands spelled sound = same-commands records.commands commands records.sound sound (sym records.spelled ∙ spelled)

IsSound-prop : (command : Token) → IsProp (IsSound command)
IsSound-prop (Escape byte) = hlevel props
IsSound-prop (Grouped character group field end payload) = hlevel props
IsSound-prop (Ungrouped character field end payload) = hlevel props
IsSound-prop (Control byte) = hlevel props
IsSound-prop (Text byte) = hlevel props
IsSound-prop (Broken bytes) = hlevel props
IsSound-prop Uel = hlevel props
IsSound-prop (PjlLine line) = hlevel props
IsSound-prop (ForeignByte byte) = hlevel props

pub AreRecords-prop : (bytes : List ℕ) → IsProp (AreRecords bytes)
AreRecords-prop bytes records others =
    let same = the-commands records others.commands others.spelled others.sound in
    λ i. record {
      commands = same i;
      spelled = is_prop→PathP (λ j. bytes ≡ encoded (same j)) (λ j. Coded-set (coded_list coded_ℕ) _ _) records.spelled others.spelled i;
      sound = is_prop→PathP (λ j. AllByRecursion IsSound (same j)) (λ j. AllByRecursion-prop IsSound IsSound-prop (same j)) records.sound others.sound i;
    }
