-- The laws of assembly text, as statements.
use Rattle.std.specs.Prelude.{◌≡◌, ℕ, List}
use Rattle.press_asm.specs.Form.{Form, HasForm}

-- A line has at most one form.
abbrev pub AtMostOneForm : Type 0
AtMostOneForm = (line : List ℕ) (form form' : Form) → HasForm line form → HasForm line form' → form ≡ form'
