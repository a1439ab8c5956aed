-- Parameters with a group, and control bytes, at the front of the bytes.
use Rattle.std.proofs.Common.{◌≡◌, ℕ, List, Bool, Option, Some, None, IfSome, arith}
use Rattle.press_cmd.specs.ParserState.{ParserState, Open}
use Rattle.press_cmd.specs.Grammar.{IsCharacter, IsGroup, scanned_in}
use Rattle.press_scan.specs.declared.reading.Found.{Found}
use Rattle.press_scan.specs.Peeks.{IsNextFound}
use Rattle.press_scan.specs.Sequences.{IsWholePair}
use Rattle.press_scan.specs.Stands.{IsFound}
use Rattle.press_scan.proofs.HeadLaws.{found_in_open}
use Rattle.press_scan.proofs.ScannerLaws.{found_passes}

pub further_found : (character group : ℕ) → IsCharacter character → IsGroup group → (bytes : List ℕ) (found : Option Found)
    → IfSome found (IsWholePair character group bytes) → IfSome found (IsFound (Open character group) bytes)
further_found character group character_class group_class bytes found is = grind (arith, found_in_open)

-- what was found, from whatever mode in which the bytes are scanned so
pub found_next : (mode scanned : ParserState) (bytes : List ℕ) (found : Option Found) → scanned_in mode bytes ≡ scanned
    → IfSome found (IsFound scanned bytes) → IfSome found (λ one. (ended : Bool) → IsNextFound mode bytes ended one)
found_next mode scanned bytes None lands is = is
found_next mode scanned bytes (Some found) lands is = λ ended. found_passes mode scanned bytes ended found lands is
