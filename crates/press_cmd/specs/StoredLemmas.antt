-- The number of a command's variant and its bytes determine it.
use Rattle.std.proofs.Common.{◌≡◌, ◌∙◌, ℕ, List, [], ◌∷◌, ◌++◌, Bool, true, false, cond, nat_le, refl, ap, arith}
use Rattle.std.proofs.lemmas.Bool.Decides.{nat_tests}
use Rattle.std.proofs.lemmas.List.{append_assoc}
use Rattle.press_units.specs.Field.{is_field_byte, is_value_field}
use Rattle.press_units.proofs.FieldTest.{test-byte}
use Rattle.press_cmd.specs.Grammar.{IsGroup, IsEnd}
use Rattle.press_cmd.specs.Token.{Token, Escape, Grouped, Ungrouped, Control, Text, Broken, Uel, PjlLine, ForeignByte, bytes_of}
use Rattle.press_cmd.specs.Stored.{variant_of, is_past_field, field_split, ending, param_from, token_from, IsSound}

field_byte-small : (b : ℕ) → is_field_byte b ≡ true → is_past_field b ≡ false
field_byte-small b h = grind (arith, nat_tests)

field_byte-no_group : (b : ℕ) → is_field_byte b ≡ true → nat_le 96 b ≡ false
field_byte-no_group b h = grind (arith, nat_tests)

end-past : (b : ℕ) → IsEnd b → is_past_field b ≡ true
end-past b h = grind (arith, nat_tests)

end-no_group : (b : ℕ) → IsEnd b → nat_le 96 b ≡ false
end-no_group b h = grind (arith, nat_tests)

group-is : (b : ℕ) → IsGroup b → nat_le 96 b ≡ true
group-is b h = grind (arith, nat_tests)

-- a field is split off, where what follows begins with an end
split-field : (prefix field : List ℕ) (end : ℕ) (payload : List ℕ) → is_value_field (prefix ++ field) ≡ true → IsEnd end → field_split (field ++ (end ∷ payload)) ≡ (field, end ∷ payload)
split-field prefix [] end payload value ends =
    ap (λ (past : Bool). cond past ([], end ∷ payload) (end ∷ (field_split payload).0, (field_split payload).1)) (end-past end ends)
split-field prefix (byte ∷ field) end payload value ends =
    let rest = split-field (prefix ++ (byte ∷ [])) field end payload (ap is_value_field (append_assoc prefix (byte ∷ []) field) ∙ value) ends in
    ap (λ (past : Bool).
    cond past ([], byte ∷ (field ++ (end ∷ payload)))
    (byte ∷ (field_split (field ++ (end ∷ payload))).0, (field_split (field ++ (end ∷ payload))).1))
    (field_byte-small byte (test-byte prefix byte field value))
    ∙ ap (λ (parts : List ℕ × List ℕ). (byte ∷ parts.0, parts.1)) rest

ungrouped : (character : ℕ) (field : List ℕ) (end : ℕ) (payload : List ℕ) → is_value_field field ≡ true → IsEnd end
    → param_from (27 ∷ character ∷ (field ++ (end ∷ payload))) ≡ Ungrouped character field end payload
ungrouped character [] end payload value ends =
    ap (λ (group : Bool). cond group (ending (Grouped character end) (field_split payload)) (ending (Ungrouped character) (field_split (end ∷ payload)))) (end-no_group end ends)
    ∙ ap (ending (Ungrouped character)) (split-field [] [] end payload value ends)
ungrouped character (byte ∷ field) end payload value ends =
    ap (λ (group : Bool).
    cond group (ending (Grouped character byte) (field_split (field ++ (end ∷ payload))))
    (ending (Ungrouped character) (field_split (byte ∷ (field ++ (end ∷ payload))))))
    (field_byte-no_group byte (test-byte [] byte field value))
    ∙ ap (ending (Ungrouped character)) (split-field [] (byte ∷ field) end payload value ends)

pub stored-read : (command : Token) → IsSound command → token_from (variant_of command) (bytes_of command) ≡ command
stored-read (Escape byte) sound = refl
stored-read (Grouped character group field end payload) sound =
    ap (λ (is : Bool).
    cond is (ending (Grouped character group) (field_split (field ++ (end ∷ payload))))
    (ending (Ungrouped character) (field_split (group ∷ (field ++ (end ∷ payload))))))
    (group-is group (sound.group_class group refl))
    ∙ ap (ending (Grouped character group)) (split-field [] field end payload sound.value_field sound.end_class)
stored-read (Ungrouped character field end payload) sound = ungrouped character field end payload sound.value_field sound.end_class
stored-read (Control byte) sound = refl
stored-read (Text byte) sound = refl
stored-read (Broken bytes) sound = refl
stored-read Uel sound = refl
stored-read (PjlLine line) sound = refl
stored-read (ForeignByte byte) sound = refl
