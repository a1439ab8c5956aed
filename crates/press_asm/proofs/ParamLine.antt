-- The lines of parameters and of broken sequences, from their parts.
use Rattle.std.proofs.Common.{◌≡◌, ◌<◌, ◌≤◌, ℕ, List, [], ◌∷◌, ◌++◌, length, take, drop, ap, arith, append_assoc, append-nil}
use Rattle.std.proofs.Math.Seq.{take-append_seam}
use Rattle.std.proofs.lemmas.List.{take-append-drop}
use Rattle.std.specs.Prelude.{codes, Option, Some, None}
use Rattle.hex.specs.Hex.{encode_upper}
use Rattle.press_cmd.specs.Token.{param_of, broken_of, field_of, end_of, data_of}
use Rattle.press_cmd.specs.View.{param_token}
use Rattle.press_cmd.specs.declared.payload.Param.{Param}
use Rattle.press_asm.specs.Form.{spaced}
use Rattle.press_asm.specs.Written.{written_line, prefix_of, beginning}
use Rattle.press_asm.proofs.Digits.{digits-append, digits-nil, digits_first}

-- the line of a parameter, from the left
pub param_line : (c : ℕ) (g : Option ℕ) (f : List ℕ) (e : ℕ) (d : List ℕ)
    → let t = param_of c g f e d in written_line t ≡ prefix_of t ++ (field_of t ++ ((end_of t ∷ []) ++ spaced (encode_upper (data_of t))))
param_line c g f e d = grind (arith, append_assoc)

-- the same of a parameter, from what its parts are told to be
pub param_from : (p : Param) (f : List ℕ) (e : ℕ) (d : List ℕ) → f ≡ field_of (param_token p) → e ≡ end_of (param_token p) → d ≡ data_of (param_token p)
    → written_line (param_token p) ≡ prefix_of (param_token p) ++ (f ++ ((e ∷ []) ++ spaced (encode_upper d)))
param_from p f e d hf he hd = grind (arith, param_line)

-- the line of a broken sequence, from the left
pub broken_line : (s : Option (ℕ × ℕ)) (bytes : List ℕ) → written_line (broken_of s bytes) ≡ codes "brk " ++ (encode_upper (beginning s) ++ encode_upper bytes)
broken_line None bytes = ap (λ x. codes "brk " ++ x) (digits-append [] bytes)
broken_line (Some s) bytes = ap (λ x. codes "brk " ++ x) (digits-append (27 ∷ s.0 ∷ s.1 ∷ []) bytes)

-- what stood before an appended part stands before all that was appended behind it
pub prefix_kept : (old added part new : List ℕ) → part ≡ old ++ added → take (length part) new ≡ part → take (length old) new ≡ old
prefix_kept old added part new is kept =
    grind (arith, is, kept, take-append-drop (length part) new, append_assoc old added (drop (length part) new), take-append_seam old (added ++ drop (length part) new))

-- nothing was appended
pub nothing_spaced : (old payload : List ℕ) → length payload < 1 → old ≡ old ++ spaced (encode_upper payload)
nothing_spaced old [] h = grind (arith, digits-nil, append-nil old)
nothing_spaced old (b ∷ payload) h = absurd (omega arith)

pub some_spaced : (payload : List ℕ) → 1 ≤ length payload → (32 ∷ []) ++ encode_upper payload ≡ spaced (encode_upper payload)
some_spaced [] h = absurd (omega arith)
some_spaced (b ∷ payload) h = grind (arith, digits_first b payload)

pub nothing_begun : (old : List ℕ) (s : Option (ℕ × ℕ)) → s ≡ None → old ≡ old ++ encode_upper (beginning s)
nothing_begun old s is = grind (arith, is, digits-nil, append-nil old)
