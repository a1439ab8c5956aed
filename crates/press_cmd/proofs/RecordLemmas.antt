-- The first of the records of commands, the others, and a further one.
use Rattle.std.proofs.Common.{◌≡◌, ◌↔◌, ◌≤◌, ◌+◌, ◌-◌, ◌==◌, ◌∙◌, ℕ, List, [], ◌∷◌, ◌++◌, length, take}
use Rattle.std.proofs.Common.{drop, slice_index_or, slice_get, Bool, false, Some, Result, Ok, Err, OnOk}
use Rattle.std.proofs.Common.{OnErr, IsTrue, refl, sym, ap, subst, arith, append_assoc, length-append}
use Rattle.std.specs.List.{AllByRecursion}
use Rattle.std.proofs.lemmas.List.{append-nil, drop-drop, length-drop}
use Rattle.std.proofs.Math.Seq.{take-append_seam, drop-append_seam}
use Rattle.byteorder.specs.Endian.{big_number}
use Rattle.press_cmd.specs.Token.{Token, bytes_of}
use Rattle.press_cmd.specs.Stored.{variant_of, token_from, IsSound}
use Rattle.press_cmd.specs.StoredLemmas.{stored-read}
use Rattle.press_cmd.specs.Records.{record_of, encoded, AreRecords}
use Rattle.press_cmd.specs.RecordsOnce.{count-read}

-- the command that the first record stands for
abbrev pub first_of : (bytes : List ℕ) (count : ℕ) → Token
first_of bytes count = token_from (slice_index_or bytes 0 0) (take (count - 5) (drop 5 bytes))

-- what is so where a record of so many bytes stands in front
pub record First (bytes : List ℕ) (commands : List Token) (count : ℕ) : Type 0 where
  pub head : 5 ≤ count
  pub within : count ≤ length bytes
  pub counted : 5 + big_number 4 (drop 1 bytes) ≡ count
  pub stored : bytes_of (first_of bytes count) ≡ take (count - 5) (drop 5 bytes)
  pub sound : IsSound (first_of bytes count)
  pub given : Some (first_of bytes count) ≡ slice_get commands 0

first-of : (command : Token) (commands : List Token) → IsSound command → First (encoded (command ∷ commands)) (command ∷ commands) (length (record_of command))
first-of command commands sound =
    let count : length (record_of command) - 5 ≡ length (bytes_of command) = omega arith in
    let part = ap (λ n. take n (bytes_of command ++ encoded commands)) count ∙ take-append_seam (bytes_of command) (encoded commands) in
    let read = ap (token_from (variant_of command)) part ∙ stored-read command sound in
    record {
      head = omega arith;
      within = omega (arith, length-append (record_of command) (encoded commands));
      counted = omega (arith, count-read command (encoded commands) sound);
      stored = ap bytes_of read ∙ sym part;
      sound = subst IsSound (sym read) sound;
      given = ap Some read;
    }

first-in : (commands : List Token) → AllByRecursion IsSound commands → (bytes : List ℕ) → bytes ≡ encoded commands → (length bytes == 0) ≡ false
    → First bytes commands (length (encoded (take 1 commands)))
first-in commands sound bytes spelled some = grind (arith, first-of, append-nil)

pub first-record : (bytes : List ℕ) (records : AreRecords bytes) → (empty : Bool) → empty ≡ (length bytes == 0) → empty ≡ false → (count : ℕ) → count ≡ length (encoded (take 1 records.commands))
    → First bytes records.commands count
first-record bytes records empty tested none count is = grind (arith, first-in)

-- ---- behind the first record

pub used-up : (commands : List Token) → IsTrue (length (encoded commands) == 0) ↔ (commands ≡ [])
used-up [] = (λ _. refl, λ _. refl)
used-up (command ∷ commands) = (λ none. absurd (grind arith), λ none. absurd (cc))

-- the records of the other commands stand at this place
pub record Behind (all : List ℕ) (place : ℕ) (commands : List Token) : Type 0 where
  pub within : place ≤ length all
  pub spelled : drop place all ≡ encoded commands
  pub sound : AllByRecursion IsSound commands

pub behind-first : (all : List ℕ) (place : ℕ) (left : AreRecords (drop place all)) → place ≤ length all → (bytes : List ℕ) → bytes ≡ drop place all
    → (count : ℕ) → ((records : AreRecords bytes) → count ≡ length (encoded (take 1 records.commands))) → Behind all (place + count) (drop 1 left.commands)
behind-first all place left within bytes is count counted =
    let first = encoded (take 1 left.commands) in
    let others = encoded (drop 1 left.commands) in
    let parts : drop place all ≡ first ++ others = left.spelled ∙ grind (arith, append-nil) in
    let same = counted (record { commands = left.commands; spelled = is ∙ left.spelled; sound = left.sound }) in
    record {
      within = omega (arith, within, same, length-drop place all, ap length parts, length-append first others);
      spelled = grind (arith, same, parts, drop-drop count place all, drop-append_seam first others);
      sound = grind (arith, left.sound);
    }

-- ---- a further record

encoded-append : (commands : List Token) (command : Token) → encoded (commands ++ (command ∷ [])) ≡ encoded commands ++ record_of command
encoded-append [] command = append-nil (record_of command)
encoded-append (first ∷ commands) command = grind (arith, append_assoc, encoded-append commands command)

pub sound-more : (commands : List Token) (command : Token) → AllByRecursion IsSound commands → IsSound command → AllByRecursion IsSound (commands ++ (command ∷ []))
sound-more [] command all one = (one, tt)
sound-more (first ∷ commands) command all one = (all.0, sound-more commands command all.1 one)

pub spelled-more : {bytes new : List ℕ} (records : AreRecords bytes) (command : Token) → new ≡ bytes ++ record_of command
    → new ≡ encoded (records.commands ++ (command ∷ []))
spelled-more records command appended = grind (arith, encoded-append)

pub pushed-records : {T E : Type 0} (r : Result T E) {bytes new : List ℕ} (command : Token) → AreRecords bytes → IsSound command
    → OnOk r (new ≡ bytes ++ record_of command) → OnErr r (new ≡ bytes) → AreRecords new
pushed-records (Ok _) command records sound appended same =
    record {
      commands = records.commands ++ (command ∷ []);
      spelled = spelled-more records command appended;
      sound = sound-more records.commands command records.sound sound;
    }
pushed-records (Err _) command records sound appended same = subst AreRecords (sym same) records

pub OnErr-map : {X E : Type 0} (r : Result X E) (P Q : Type 0) → (P → Q) → OnErr r P → OnErr r Q
OnErr-map r P Q f h = grind arith

pub OnOk-map : {X E : Type 0} (r : Result X E) (P Q : Type 0) → (P → Q) → OnOk r P → OnOk r Q
OnOk-map r P Q f h = grind arith
