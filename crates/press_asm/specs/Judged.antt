-- What is wrong with a form or a line, and what a good one adds.
use Rattle.std.specs.Prelude.{◌≡◌, ℕ, List, ◌++◌, Ok}
use Rattle.hex.specs.Hex.{decode_of}
use Rattle.press_cmd.specs.Token.{Token}
use Rattle.press_asm.specs.Form.{Form, HasForm, HasValue, Gives, IsBadLine, IsBadValue, IsBadData}
use Rattle.press_asm.specs.Text.{all_bytes}
use Rattle.press_asm.specs.declared.fault.AssembleError.{AssembleError}
use Rattle.press_asm.specs.declared.fault.AssembleError.TheVariants as errors
use Rattle.press_asm.specs.declared.fault.LineFault.{LineFault}
use Rattle.press_asm.specs.declared.fault.LineFault.TheVariants.{Line, Value, Data, NoMemory}

-- the digits are those of no bytes
abbrev pub NoBytes : List ℕ → Type 0
NoBytes digits = (bytes : List ℕ) → decode_of digits ≡ Ok bytes → ⊥

-- the fault is the form's
abbrev pub HasFormFault : Form → LineFault → Type 0
HasFormFault form Line = ⊥
HasFormFault form Value = HasValue form → ⊥
HasFormFault form Data = HasValue form × ((commands : List Token) → Gives form commands → ⊥)
HasFormFault form NoMemory = Unit {0}

-- the fault is the line's
abbrev pub HasLineFault : List ℕ → LineFault → Type 0
HasLineFault line Line = IsBadLine line
HasLineFault line Value = IsBadValue line
HasLineFault line Data = IsBadData line
HasLineFault line NoMemory = Unit {0}

-- the bytes of what the form stands for are added
abbrev pub FormAdds : Form → List ℕ → List ℕ → Type 0
FormAdds form old new = (commands : List Token) × Gives form commands × (new ≡ old ++ all_bytes commands)

-- the bytes of what the line stands for are added
abbrev pub LineAdds : List ℕ → List ℕ → List ℕ → Type 0
LineAdds line old new = (form : Form) × HasForm line form × FormAdds form old new

-- the error of a text whose line of this number has the fault
abbrev pub error_at : LineFault → ℕ → AssembleError
error_at Line number = errors.BadLine number
error_at Value number = errors.BadValue number
error_at Data number = errors.BadData number
error_at NoMemory number = errors.NoMemory
