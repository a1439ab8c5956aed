-- A line whose reply has characters that a terminal takes as controls, and what JSON reads in it, computed.
use Rattle.std.proofs.Common.{◌≡◌, [], ◌∷◌, ◌++◌, Some, refl}
use Rattle.std.specs.Prelude.{codes}
use Rattle.hex.proofs.OnLiterals.{hex_on_literals}
use Rattle.serde_json.proofs.OnLiterals.{serde_json_on_literals}
use Rattle.serde_json.specs.Data.{Members, no_members, object, put, string}
use Rattle.serde_json.specs.Read.{read}
use Rattle.press_trace.specs.Lines.{line_text}
use Rattle.press_trace.specs.Spelled.{spelled}
use Rattle.press_trace.specs.Texts.{text_of}

-- the bytes 1F, 7E, 7F, 80, 9F, A0, C2, 80, C2 and 7F, each as the character of its number
abbrev told : Members
told = put (codes "reply") (string (text_of (31 ∷ 126 ∷ 127 ∷ 128 ∷ 159 ∷ 160 ∷ 194 ∷ 128 ∷ 194 ∷ 127 ∷ []))) no_members

its_line :
    line_text told
    ≡ codes "{\"reply\":\"\\u001f~\\u007f\\u0080\\u009f"
    ++ (194 ∷ 160 ∷ 195 ∷ 130 ∷ codes "\\u0080" ++ (195 ∷ 130 ∷ codes "\\u007f\"}\n"))
unfolding serde_json_on_literals hex_on_literals
its_line = refl

read_back : read (line_text told) ≡ Some (object told)
unfolding serde_json_on_literals hex_on_literals
read_back = refl

-- a byte that stands alone at the end of a text is told as it is, unless it is the delete character
at_the_end : spelled (65 ∷ 194 ∷ []) ≡ 65 ∷ 194 ∷ []
at_the_end = refl

deleted_at_the_end : spelled (194 ∷ 127 ∷ []) ≡ 194 ∷ codes "\\u007f"
unfolding hex_on_literals
deleted_at_the_end = refl
