-- A test for a PJL line, by which a line that is known to be one can be used as one.
use Rattle.std.proofs.Common.{◌≡◌, ◌≤◌, ◌∙◌, ◌&&◌, ℕ, List, [], ◌∷◌, ◌++◌, length, take, Bool, true, false, cond, Option, Some, None, refl, ap, eqb, leb, arith}
use Rattle.std.specs.List.{list_all}
use Rattle.std.proofs.lemmas.Bool.{and_parts, and_from, eqb-true, leb-true}
use Rattle.std.proofs.Math.Bool.{Bool-set}
use mathlib.Core.Logic.{∥∥₁_elim}
use Rattle.press_cmd.specs.Token.{pjl_mark}
use Rattle.press_cmd.specs.Grammar.{longest_line, is_line_byte, differs, IsPjlLine}
use Rattle.press_cmd.proofs.Reading.{stripped}
use Rattle.press_cmd.proofs.ReadHead.{stripped-true}

-- plain bytes and a line feed
ends_plain : List ℕ → Bool
ends_plain [] = false
ends_plain (b ∷ []) = eqb b 10
ends_plain (b ∷ c ∷ x) = is_line_byte b && ends_plain (c ∷ x)

ends_after_mark : Option (List ℕ) → Bool
ends_after_mark None = false
ends_after_mark (Some x) = ends_plain x

is_line : List ℕ → Bool
is_line u = ends_after_mark (stripped pjl_mark u) && leb (length u) longest_line

ends_plain-from : (text : List ℕ) → list_all is_line_byte text ≡ true → ends_plain (text ++ (10 ∷ [])) ≡ true
unfolding ends_plain
ends_plain-from [] h = refl
ends_plain-from (b ∷ []) h = h
ends_plain-from (b ∷ c ∷ x) h = let p = and_parts (is_line_byte b) (list_all is_line_byte (c ∷ x)) h in and_from (is_line_byte b) _ p.0 (ends_plain-from (c ∷ x) p.1)

record PlainEnd (x : List ℕ) : Type 0 where
  text : List ℕ
  spelled : x ≡ text ++ (10 ∷ [])
  plain : list_all is_line_byte text ≡ true

ends_plain-true : (x : List ℕ) → ends_plain x ≡ true → PlainEnd x
unfolding ends_plain
ends_plain-true [] h = cc
ends_plain-true (b ∷ []) h = record { text = []; spelled = ap (λ y. y ∷ []) (eqb-true b 10 h); plain = refl }
ends_plain-true (b ∷ c ∷ x) h =
    let p = and_parts (is_line_byte b) (ends_plain (c ∷ x)) h in
    let r = ends_plain-true (c ∷ x) p.1 in
    record { text = b ∷ r.text; spelled = ap (λ y. b ∷ y) r.spelled; plain = and_from (is_line_byte b) _ p.0 r.plain }

is_line-from : (u : List ℕ) → IsPjlLine u → is_line u ≡ true
unfolding is_line ends_after_mark
is_line-from u is = grind (arith, ends_plain-from)

line-at : (u : List ℕ) (o : Option (List ℕ)) → stripped pjl_mark u ≡ o → ends_after_mark o ≡ true → length u ≤ longest_line → IsPjlLine u
unfolding ends_after_mark
line-at u None e h fits = cc
line-at u (Some x) e h fits =
    let r = ends_plain-true x h in
    record {
      prefix = pjl_mark ++ r.text;
      spelled = stripped-true pjl_mark u x e ∙ ap (λ y. pjl_mark ++ y) r.spelled;
      begins = record { text = r.text; mark = refl; plain = r.plain };
      fits = fits;
    }

is_line-true : (u : List ℕ) → is_line u ≡ true → IsPjlLine u
unfolding is_line
is_line-true u h = let p = and_parts (ends_after_mark (stripped pjl_mark u)) _ h in line-at u (stripped pjl_mark u) refl p.0 (leb-true (length u) longest_line p.1)

-- what is known to be a line is one
pub IsPjlLine-known : (u : List ℕ) → ∥ IsPjlLine u ∥₁ → IsPjlLine u
IsPjlLine-known u h = is_line-true u (∥∥₁_elim h (Bool-set (is_line u) true) (is_line-from u))

-- ---- what the code tests

-- bytes that do not differ from a text, and are as long, begin with it
pub equal_and : (b c : Bool) → cond b c true ≡ false → (b ≡ true) × (c ≡ false)
equal_and b c h = grind arith

pub take-not_differs : (text bytes : List ℕ) → differs text bytes ≡ false → length text ≤ length bytes → take (length text) bytes ≡ text
take-not_differs [] bytes same enough = refl
take-not_differs (byte ∷ text) [] same enough = absurd (omega arith)
take-not_differs (byte ∷ text) (other ∷ bytes) same enough =
    grind (arith, take-not_differs text bytes (equal_and (eqb byte other) (differs text bytes) same).1 (omega arith))
