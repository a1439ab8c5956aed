-- How proofs tell two stores of macros apart: the code of commands, definitions and stores.
use Rattle.std.specs.Prelude.{◌≡◌, ℕ, List, [], Option, cond, ◌==◌, refl}
use Rattle.std.specs.Coded.{Coded, code_by, coded×, coded_ℕ, coded_list, coded_option}
use Rattle.press_cmd.specs.Token.{Token, Escape, Grouped, Ungrouped, Control, Text, Broken, Uel, PjlLine, ForeignByte}
use Rattle.press_store.specs.Things.{Things, things_code}
use Rattle.press_macros.specs.Macros.{Definition, Macros}

-- A command as its number among the nine, three numbers, and two lists.
abbrev CommandParts : Type 0
CommandParts = ℕ × (ℕ × (ℕ × (ℕ × (List ℕ × List ℕ))))

abbrev command_parts : Token → CommandParts
command_parts (Escape byte) = (0, (byte, (0, (0, ([], [])))))
command_parts (Grouped character group field end payload) = (1, (character, (group, (end, (field, payload)))))
command_parts (Ungrouped character field end payload) = (2, (character, (0, (end, (field, payload)))))
command_parts (Control byte) = (3, (byte, (0, (0, ([], [])))))
command_parts (Text byte) = (4, (byte, (0, (0, ([], [])))))
command_parts (Broken bytes) = (5, (0, (0, (0, (bytes, [])))))
command_parts Uel = (6, (0, (0, (0, ([], [])))))
command_parts (PjlLine line) = (7, (0, (0, (0, (line, [])))))
command_parts (ForeignByte byte) = (8, (byte, (0, (0, ([], [])))))

abbrev command_from : ℕ → ℕ → ℕ → ℕ → List ℕ → List ℕ → Token
command_from n a b c bytes more =
    cond (n == 0) (Escape a) (cond (n == 1) (Grouped a b bytes c more) (cond (n == 2) (Ungrouped a bytes c more)
    (cond (n == 3) (Control a) (cond (n == 4) (Text a) (cond (n == 5) (Broken bytes)
    (cond (n == 6) Uel (cond (n == 7) (PjlLine bytes) (ForeignByte a))))))))

abbrev from_parts : CommandParts → Token
from_parts p = command_from p.0 p.1.0 p.1.1.0 p.1.1.1.0 p.1.1.1.1.0 p.1.1.1.1.1

pub from_parts-command_parts : (command : Token) → from_parts (command_parts command) ≡ command
from_parts-command_parts (Escape byte) = refl
from_parts-command_parts (Grouped character group field end payload) = refl
from_parts-command_parts (Ungrouped character field end payload) = refl
from_parts-command_parts (Control byte) = refl
from_parts-command_parts (Text byte) = refl
from_parts-command_parts (Broken bytes) = refl
from_parts-command_parts Uel = refl
from_parts-command_parts (PjlLine line) = refl
from_parts-command_parts (ForeignByte byte) = refl

abbrev pub command_code : Coded Token
command_code =
    code_by CommandParts (coded× coded_ℕ (coded× coded_ℕ (coded× coded_ℕ (coded× coded_ℕ (coded× (coded_list coded_ℕ) (coded_list coded_ℕ))))))
    command_parts from_parts from_parts-command_parts

abbrev pub definition_code : Coded Definition
definition_code =
    code_by (ℕ × List Token) (coded× coded_ℕ (coded_list command_code))
    (λ d. (d.id, d.commands)) (λ p. record { id = p.0; commands = p.1 }) (λ _. refl)

abbrev pub macros_code : Coded Macros
macros_code =
    code_by (Things (List Token) × Option Definition) (coded× (things_code (coded_list command_code)) (coded_option definition_code))
    (λ m. (m.stored, m.definition)) (λ p. record { stored = p.0; definition = p.1 }) (λ _. refl)
