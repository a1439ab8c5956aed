-- Reading finds exactly the Head that stands.
use Rattle.std.proofs.Common.{◌≡◌, ◌∙◌, ◌==◌, ℕ, List, [], ◌∷◌, ◌++◌, Bool, true, false, cond, Option, Some, None, refl, sym, ap, subst, inl, inr, arith}
use Rattle.std.proofs.lemmas.Bool.{true≢false}
use Rattle.press_cmd.specs.Token.{Token, Grouped, Broken, Uel, PjlLine, ForeignByte, uel, pjl_mark}
use Rattle.press_cmd.specs.ParserState.{ParserState, Exit, OverlongLine, OtherLanguage, Pcl, Open}
use Rattle.press_cmd.specs.Grammar.{BeginsLine, differs, begins_pair, scanned_in, Stands, Head}
use Rattle.press_cmd.proofs.Reading.{Found, stripped, read_line, read_after_mark, read_foreign, read_on, reading_in, reading}
use Rattle.press_cmd.proofs.ReadWhole.{start, whole_reads}
use Rattle.press_cmd.proofs.ReadStep.{EndsOpen}
use Rattle.press_cmd.proofs.ReadBroken.{OfPcl, breaks_reads, gave}
use Rattle.press_cmd.proofs.ReadLine.{line_reads, cut_reads, full_reads, gave-line}

-- ---- beginning with a text

pub stripped-true : (text bytes rest : List ℕ) → stripped text bytes ≡ Some rest → bytes ≡ text ++ rest
stripped-true [] bytes rest h = cc
stripped-true (b ∷ text) [] rest h = cc
stripped-true (b ∷ text) (o ∷ bytes) rest h = grind (arith, stripped-true text bytes rest)

pub differs-stripped : (text bytes : List ℕ) → differs text bytes ≡ true → stripped text bytes ≡ None
differs-stripped [] bytes h = cc
differs-stripped (b ∷ text) [] h = cc
differs-stripped (b ∷ text) (o ∷ bytes) h = grind (arith, differs-stripped text bytes)

-- ---- what stands is read

begins-stripped : (u v : List ℕ) (is : BeginsLine u) → stripped pjl_mark (u ++ v) ≡ Some (is.text ++ v)
begins-stripped u v is = ap (λ w. stripped pjl_mark (w ++ v)) is.mark

exit-reads : (u v : List ℕ) (t : Token) (n : ParserState) (rest : List ℕ) → stripped pjl_mark (u ++ v) ≡ Some rest
    → read_line pjl_mark rest ≡ Found t n v → read_after_mark (stripped pjl_mark (u ++ v)) ≡ Found t n v
exit-reads u v t n rest e h = ap read_after_mark e ∙ h

foreign-reads : (b : ℕ) (v : List ℕ) → differs uel (b ∷ v) ≡ true → read_foreign (stripped uel (b ∷ v)) (differs uel (b ∷ v)) b v ≡ Found (ForeignByte b) OtherLanguage v
foreign-reads b v h = grind (arith, differs-stripped uel (b ∷ v) h, h)

-- What stands in the mode in which the bytes are scanned is read.
pub stands_reads : (k : ParserState) (u v : List ℕ) (t : Token) (n : ParserState) → Stands k u v t n → reading_in k (u ++ v) ≡ Found t n v
stands_reads Exit u v (PjlLine line) n h = grind (arith, line_reads)
stands_reads Exit u v (Broken broken) n h =
    elim h.1.1 [
      | inl c ↦ exit-reads u v (Broken broken) n _ (begins-stripped u v h.1.0) (cut_reads u v c.0 h.1.0 c.1 c.2 _ (begins-stripped u v h.1.0) ∙ cc (h.0, c.3))
      | inr c ↦ exit-reads u v (Broken broken) n _ (begins-stripped u v h.1.0) (full_reads u v h.1.0 c.0 _ (begins-stripped u v h.1.0) ∙ cc (h.0, c.1))
    ]
stands_reads OverlongLine u v (Broken broken) n h = grind (arith, h.1.1, h.0, h.1.2)
stands_reads OtherLanguage u v Uel n h = grind (arith, h.0, h.1)
stands_reads OtherLanguage u v (ForeignByte b) n h = grind (arith, h.0, foreign-reads b v h.1, h.2)
stands_reads Pcl u v (Broken broken) n h = breaks_reads Pcl tt u v h.1 ∙ cc (h.0, h.2)
stands_reads Pcl u v (PjlLine line) n h = absurd h
stands_reads Pcl u v (ForeignByte b) n h = absurd h
stands_reads Pcl u v t n h = whole_reads Pcl u t n v h
stands_reads (Open x y) u v (Broken broken) n h = breaks_reads (Open x y) tt u v h.1 ∙ cc (h.0, h.2)
stands_reads (Open x y) u v (Grouped c g f e d) n h = whole_reads (Open x y) u (Grouped c g f e d) n v h
stands_reads _ u v _ n h = absurd h

-- Reading finds the Head.
pub head_reads : (m : ParserState) (u v : List ℕ) (t : Token) (n : ParserState) → Head m u v t n → reading m (u ++ v) ≡ Found t n v
head_reads m u v t n h = stands_reads (scanned_in m (u ++ v)) u v t n h

-- ---- what is read stands

-- where bytes are scanned in an open sequence, a pair begins with the first
abbrev pub Settled : ParserState → List ℕ → Type 0
Settled (Open c g) (b ∷ x) = begins_pair b ≡ true
Settled _ _ = Unit {0}

-- these bytes at the front stand for the command
pub record Stood (k : ParserState) (x : List ℕ) (t : Token) (n : ParserState) (left : List ℕ) : Type 0 where
  pub used : List ℕ
  pub cut : x ≡ used ++ left
  pub stands : Stands k used left t n

pcl-stood : (k : ParserState) → OfPcl k → (x : List ℕ) (t : Token) (n : ParserState) (left : List ℕ)
    → ((b : ℕ) (y : List ℕ) → x ≡ b ∷ y → EndsOpen k b → ⊥) → read_on (start k) x ≡ Found t n left → Stood k x t n left
pcl-stood k is x t n left live h = grind (arith, gave k [] (start k) x t n left (grind arith) (λ _. live) h)

open-live : (c g : ℕ) (x : List ℕ) → Settled (Open c g) x → (b : ℕ) (y : List ℕ) → x ≡ b ∷ y → EndsOpen (Open c g) b → ⊥
open-live c g x is b y e ends = true≢false (sym (subst (λ (z : List ℕ). Settled (Open c g) z) e is) ∙ ends)

exit-stood : (x : List ℕ) (t : Token) (n : ParserState) (left : List ℕ) (o : Option (List ℕ)) → stripped pjl_mark x ≡ o → read_after_mark o ≡ Found t n left → Stood Exit x t n left
exit-stood x t n left None e h = cc
exit-stood x t n left (Some rest) e h = grind (arith, gave-line pjl_mark rest t n left (record { text = []; mark = refl; plain = refl }) (omega arith) h)

foreign-stood : (b : ℕ) (x : List ℕ) (t : Token) (n : ParserState) (left : List ℕ) (o : Option (List ℕ)) (other : Bool) → stripped uel (b ∷ x) ≡ o → differs uel (b ∷ x) ≡ other
    → read_foreign o other b x ≡ Found t n left → Stood OtherLanguage (b ∷ x) t n left
foreign-stood b x t n left (Some rest) other e d h =
    let command : Uel ≡ t = cc in
    let mode : Exit ≡ n = cc in
    let same : rest ≡ left = cc in
    record { used = uel; cut = stripped-true uel (b ∷ x) rest e ∙ ap (λ y. uel ++ y) same; stands = subst (λ (y : Token). Stands OtherLanguage uel left y n) command (refl, sym mode) }
foreign-stood b x t n left None true e d h =
    let command : ForeignByte b ≡ t = cc in
    let mode : OtherLanguage ≡ n = cc in
    let same : x ≡ left = cc in
    record { used = b ∷ []; cut = ap (λ y. b ∷ y) same; stands = subst (λ (y : Token). Stands OtherLanguage (b ∷ []) left y n) command (refl, ap (λ y. differs uel (b ∷ y)) (sym same) ∙ d, sym mode) }
foreign-stood b x t n left None false e d h = cc

-- What is read stands, in the mode in which the bytes are scanned.
pub stood : (k : ParserState) (x : List ℕ) (t : Token) (n : ParserState) (left : List ℕ) → Settled k x → reading_in k x ≡ Found t n left → Stood k x t n left
stood Exit x t n left is h = exit-stood x t n left (stripped pjl_mark x) refl h
stood OverlongLine [] t n left is h = cc
stood OverlongLine (b ∷ x) t n left is h =
    let command : Broken (b ∷ []) ≡ t = cc in
    let mode : cond (b == 10) Exit OverlongLine ≡ n = cc in
    let same : x ≡ left = cc in
    record { used = b ∷ []; cut = ap (λ y. b ∷ y) same; stands = subst (λ (y : Token). Stands OverlongLine (b ∷ []) left y n) command (refl, (b, refl, sym mode)) }
stood OtherLanguage [] t n left is h = cc
stood OtherLanguage (b ∷ x) t n left is h = foreign-stood b x t n left (stripped uel (b ∷ x)) (differs uel (b ∷ x)) refl refl h
stood Pcl x t n left is h = pcl-stood Pcl tt x t n left (λ b y e ends. ends) h
stood (Open c g) x t n left is h = pcl-stood (Open c g) tt x t n left (open-live c g x is) h

-- a Head at the front of the bytes
pub record HeadAt (m : ParserState) (x : List ℕ) (t : Token) (n : ParserState) (left : List ℕ) : Type 0 where
  pub used : List ℕ
  pub cut : x ≡ used ++ left
  pub head : Head m used left t n

-- What is read is a Head.
pub read_head : (m : ParserState) (x : List ℕ) (t : Token) (n : ParserState) (left : List ℕ) → reading m x ≡ Found t n left → HeadAt m x t n left
read_head m x t n left h = grind (arith, stood (scanned_in m x) x t n left (grind arith) h)
