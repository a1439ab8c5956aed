-- Laws of Heads.
use Rattle.std.proofs.Common.{◌≡◌, ℕ, List, [], ◌∷◌, ◌++◌, Bool, true, false, cond, refl, sym, ap, append_assoc, eqb, arith}
use Rattle.press_cmd.specs.Token.{Token, escape_byte, pjl_mark}
use Rattle.press_cmd.specs.ParserState.{ParserState, Exit, OverlongLine, OtherLanguage, Pcl, Open}
use Rattle.press_cmd.specs.Grammar.{Whole, differs, scanned_in, Stands, Head}
use Rattle.press_cmd.specs.Split.{NoHead}
use Rattle.press_cmd.proofs.Reading.{Short, reading}
use Rattle.press_cmd.proofs.ReadWhole.{whole_reads}
use Rattle.press_cmd.proofs.ReadHead.{head_reads}

-- No command begins another: whole commands in one mode whose bytes begin alike are the same.
pub one_whole : (m : ParserState) (u x u' x' : List ℕ) (t t' : Token) (n n' : ParserState) → Whole m u t n → Whole m u' t' n' → u ++ x ≡ u' ++ x' → (u ≡ u') × (t ≡ t') × (n ≡ n')
one_whole m u x u' x' t t' n n' h h' same = grind (arith, whole_reads m u t n x h, whole_reads m u' t' n' x' h')

-- At most one Head stands at the front of the bytes.
pub one_head : (m : ParserState) (u v u' v' : List ℕ) (t t' : Token) (n n' : ParserState) → Head m u v t n → Head m u' v' t' n' → u ++ v ≡ u' ++ v' → (u ≡ u') × (v ≡ v') × (t ≡ t') × (n ≡ n')
one_head m u v u' v' t t' n n' h h' same = grind (arith, head_reads)

-- Where reading is short no Head stands.
pub short-NoHead : (m : ParserState) (x : List ℕ) → reading m x ≡ Short → NoHead m x
short-NoHead m x e used left t n cut head = cc (head_reads m used left t n head)

-- ---- every Head uses a byte

-- A list with an element behind others is not empty.
pub no_end : (f : List ℕ) (b : ℕ) (d : List ℕ) → f ++ (b ∷ d) ≡ [] → ⊥
no_end [] b d h = cc
no_end (x ∷ f) b d h = cc

-- Every Head uses at least one byte.
pub head-some : (m : ParserState) (u v : List ℕ) (t : Token) (n : ParserState) → Head m u v t n → u ≡ [] → ⊥
head-some m u v t n h e = grind arith

-- ---- a Head stays one, whatever is put after what follows

stands-more : (k : ParserState) (u v w : List ℕ) (t : Token) (n : ParserState) → Stands k u v t n → Stands k u (v ++ w) t n
stands-more k u v w t n h = grind arith

-- What begins a line does not differ from its mark.
stands_exit-differs : (u v : List ℕ) (t : Token) (n : ParserState) → Stands Exit u v t n → (w : List ℕ) → differs pjl_mark (u ++ w) ≡ false
stands_exit-differs u v t n h w = grind arith

-- the bytes are scanned in the same mode
exit_same-at : (u v w : List ℕ) (t : Token) (n : ParserState) (d : Bool) → differs pjl_mark (u ++ v) ≡ d → Stands (cond d Pcl Exit) u v t n
    → cond d Pcl Exit ≡ cond (differs pjl_mark (u ++ (v ++ w))) Pcl Exit
exit_same-at u v w t n true e h = grind (arith, append_assoc)
exit_same-at u v w t n false e h = ap (λ x. cond x Pcl Exit) (sym (stands_exit-differs u v t n h (v ++ w)))

exit_same : (u v w : List ℕ) (t : Token) (n : ParserState) → Head Exit u v t n → scanned_in Exit (u ++ v) ≡ scanned_in Exit (u ++ (v ++ w))
exit_same u v w t n h = exit_same-at u v w t n (differs pjl_mark (u ++ v)) refl h

tail_same-at : (a : ℕ) (u v w : List ℕ) (t : Token) (n : ParserState) (e : Bool) → Stands (cond e (scanned_in Exit (a ∷ (u ++ v))) OverlongLine) (a ∷ u) v t n
    → cond e (scanned_in Exit (a ∷ (u ++ v))) OverlongLine ≡ cond e (scanned_in Exit (a ∷ (u ++ (v ++ w)))) OverlongLine
tail_same-at a u v w t n true h = exit_same (a ∷ u) v w t n h
tail_same-at a u v w t n false h = refl

pub scanned_same : (m : ParserState) (u v w : List ℕ) (t : Token) (n : ParserState) → Head m u v t n → scanned_in m (u ++ v) ≡ scanned_in m (u ++ (v ++ w))
scanned_same Exit u v w t n h = exit_same u v w t n h
scanned_same OverlongLine [] v w t n h = absurd (head-some OverlongLine [] v t n h refl)
scanned_same OverlongLine (a ∷ u) v w t n h = tail_same-at a u v w t n (eqb a escape_byte) h
scanned_same OtherLanguage u v w t n h = refl
scanned_same Pcl u v w t n h = refl
scanned_same (Open c g) [] v w t n h = absurd (head-some (Open c g) [] v t n h refl)
scanned_same (Open c g) (a ∷ u) v w t n h = refl

-- A Head stays one, whatever is put after what follows.
pub head-more : (m : ParserState) (u v w : List ℕ) (t : Token) (n : ParserState) → Head m u v t n → Head m u (v ++ w) t n
head-more m u v w t n h = grind (arith, scanned_same, stands-more)
