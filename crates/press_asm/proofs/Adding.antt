-- What a form adds, and how it is refused.
use Rattle.std.proofs.Common.{◌≡◌, ◌∙◌, ℕ, List, [], ◌∷◌, ◌++◌, length, refl, sym, ap, subst, append-nil, arith}
use Rattle.std.specs.Prelude.{Option, Some, Ok}
use Rattle.std.specs.Str.{IsUtf8}
use Rattle.hex.specs.Hex.{decode_of}
use Rattle.press_cmd.specs.Token.{Token, Broken, PjlLine, param_of, bytes_of}
use Rattle.press_cmd.specs.Carried.{data_count}
use Rattle.press_cmd.specs.Grammar.{IsPjlLine}
use Rattle.press_units.specs.Field.{IsField}
use Rattle.press_asm.specs.Form.{Form, ParamForm, BrokenForm, LineForm, Gives}
use Rattle.press_asm.specs.Reading.{form_of}
use Rattle.press_asm.specs.Judged.{HasFormFault, FormAdds, LineAdds}
use Rattle.press_asm.specs.declared.fault.LineFault.{LineFault}
use Rattle.press_asm.specs.declared.fault.LineFault.TheVariants.{Data}
use Rattle.press_asm.specs.declared.form.Form.{Form as ReadForm}
use Rattle.press_asm.specs.View.{form_seen}
use Rattle.press_asm.proofs.FormLaws.{sound}

-- the bytes of one command
pub one_added : (form : Form) (t : Token) (old new : List ℕ) → Gives form (t ∷ []) → new ≡ old ++ bytes_of t → FormAdds form old new
one_added form t old new gives e = (t ∷ [], gives, e ∙ ap (λ x. old ++ x) (sym (append-nil (bytes_of t))))

-- of a form of the code
pub seen_added : (f : ReadForm) (form : Form) (t : Token) (old new : List ℕ) → form_seen f ≡ form → Gives form (t ∷ []) → new ≡ old ++ bytes_of t → FormAdds (form_seen f) old new
seen_added f form t old new is gives e = subst (λ (x : Form). FormAdds x old new) (sym is) (one_added form t old new gives e)

pub param_added : (c : ℕ) (g : Option ℕ) (f : List ℕ) (e : ℕ) (d payload old new x : List ℕ) (t : Token) → IsField f → decode_of d ≡ Ok payload
    → length payload ≡ data_count c g f e → t ≡ param_of c g f e x → x ≡ payload → new ≡ old ++ bytes_of t → FormAdds (ParamForm c g f e d) old new
param_added c g f e d payload old new x t field bytes count is same added =
    let whole : t ≡ param_of c g f e payload = is ∙ ap (param_of c g f e) same in
    one_added (ParamForm c g f e d) t old new (t, refl, (field, payload, bytes, count, whole)) added

pub broken_added : (d bytes old new : List ℕ) → decode_of d ≡ Ok bytes → new ≡ old ++ bytes → FormAdds (BrokenForm d) old new
broken_added d bytes old new is same = one_added (BrokenForm d) (Broken bytes) old new (Broken bytes, refl, (bytes, is, refl)) same

pub line_added : (d bytes old new x y : List ℕ) → decode_of d ≡ Ok bytes → IsPjlLine x → x ≡ bytes → y ≡ bytes → new ≡ old ++ y → FormAdds (LineForm d) old new
line_added d bytes old new x y is line first second same =
    one_added (LineForm d) (PjlLine bytes) old new (PjlLine bytes, refl, (bytes, is, subst IsPjlLine first line, refl)) (same ∙ ap (λ z. old ++ z) second)

-- a parameter whose data is not as long as its value says
pub param_count : (c : ℕ) (g : Option ℕ) (f : List ℕ) (e : ℕ) (d payload : List ℕ) → IsField f → decode_of d ≡ Ok payload → (length payload ≡ data_count c g f e → ⊥)
    → HasFormFault (ParamForm c g f e d) Data
param_count c g f e d payload field bytes other = grind arith

-- the fault of a form of the code
pub seen_fault : (f : ReadForm) (form : Form) (fault : LineFault) → form_seen f ≡ form → HasFormFault form fault → HasFormFault (form_seen f) fault
seen_fault f form fault is h = subst (λ (x : Form). HasFormFault x fault) (sym is) h

-- a form that is read is the line's
pub line_adds : (line : List ℕ) (form : Form) (old new : List ℕ) → IsUtf8 line → form_of line ≡ Some form → FormAdds form old new → LineAdds line old new
line_adds line form old new text read added = (form, (text, sound line form read), added)
