-- The bytes of the commands of a stream, each by itself, have the same closed split.
--
-- The modes go along: a command that is written by itself leaves the mode that it left in the stream, but for an open
-- sequence, in place of which the mode is Pcl. What follows a command counts in three places only: for what breaks, its
-- first byte; on leaving Exit, and for a byte of a foreign language, whether it differs from a fixed text. What is written
-- begins with the same byte as what stood there, and differs from these texts where that did.
use Rattle.std.proofs.Common.{◌⊎◌, ◌≡◌, ◌<◌, ◌≤◌, ◌∙◌, ℕ, List, [], ◌∷◌, ◌++◌, map, length, Bool, true, false, cond, refl, sym, ap, subst, inl, inr, arith, append-nil, eqb}
use Rattle.std.specs.List.{AllByRecursion}
use Rattle.std.proofs.lemmas.Bool.{eqb-true, ne_eqb}
use Rattle.std.proofs.lemmas.List.{append_cancel_right}
use Rattle.press_cmd.specs.Token.{Token, Escape, Text, Broken, Uel, PjlLine, ForeignByte, pjl_mark, escape_byte, bytes_of}
use Rattle.press_cmd.specs.ParserState.{ParserState, Exit, OverlongLine, OtherLanguage, Pcl, Open}
use Rattle.press_cmd.specs.Grammar.{IsPjlLine, longest_line, IsCharacter, IsGroup, Breaks}
use Rattle.press_cmd.specs.Grammar.{BeginsLine, differs, begins_pair, scanned_in, Stands, Head}
use Rattle.press_cmd.specs.Language.{mode_after, enters_language}
use Rattle.press_cmd.specs.Split.{Steps, NoHead, closing_in, closing, ClosedFrom, Closed}
use Rattle.press_cmd.proofs.Reading.{Reading, Short, Found, reading, reading_in, read_on, Start, Pair}
use Rattle.press_cmd.proofs.Heads.{head-some, short-NoHead}
use Rattle.press_cmd.proofs.ReadHead.{stands_reads, read_head}
use Rattle.press_cmd.proofs.ByteTests.{is_end-above, is_earlier_end-from, is_escape_end-below, is_character-from, extends-past, is_escape-from}
use Rattle.press_cmd.proofs.Splits.{closed-cons, nothing_closed}
use Rattle.press_cmd.proofs.StreamsOf.{goes_on-escape}
use Rattle.press_asm.specs.Text.{all_bytes}

-- ---- modes

-- the mode after a command that is written by itself
abbrev shut : ParserState → ParserState
shut Exit = Exit
shut OverlongLine = OverlongLine
shut OtherLanguage = OtherLanguage
shut Pcl = Pcl
shut (Open c g) = Pcl

-- an open sequence has a character and a group
abbrev Proper : ParserState → Type 0
Proper (Open c g) = IsCharacter c × IsGroup g
Proper _ = Unit {0}

-- every mode but an open sequence
abbrev NotOpen : ParserState → Type 0
NotOpen (Open c g) = ⊥
NotOpen _ = Unit {0}

shut-cond : (b : Bool) (m n : ParserState) → shut m ≡ m → shut n ≡ n → shut (cond b m n) ≡ cond b m n
shut-cond b m n hm hn = grind arith

shut-mode_after : (u : List ℕ) → shut (mode_after u) ≡ mode_after u
shut-mode_after u = shut-cond (enters_language u) _ Exit (shut-cond _ Pcl OtherLanguage refl refl) refl

-- ---- first bytes

-- both lists begin with one byte
record SameFirst (x y : List ℕ) : Type 0 where
  first : ℕ
  later : List ℕ
  later' : List ℕ
  left : x ≡ first ∷ later
  right : y ≡ first ∷ later'

same_self : (x : List ℕ) → (x ≡ [] → ⊥) → SameFirst x x
same_self [] some_ = absurd (some_ refl)
same_self (b ∷ x) some_ = record { first = b; later = x; later' = x; left = refl; right = refl }

same_along : (x x' y : List ℕ) → x ≡ x' → SameFirst x y → SameFirst x' y
same_along x x' y e s = subst (λ (z : List ℕ). SameFirst z y) e s

first_is : (b : ℕ) (x y : List ℕ) → SameFirst (b ∷ x) y → (z : List ℕ) × (y ≡ b ∷ z)
first_is b x y s = let e : s.first ≡ b = cc (s.left) in (s.later', s.right ∙ ap (λ f. f ∷ s.later') e)

-- the bytes of a command, and those that it stood as
command_first : (k : ParserState) (u v : List ℕ) (t : Token) (n : ParserState) → NotOpen k → (u ≡ [] → ⊥) → Stands k u v t n → SameFirst u (bytes_of t)
command_first k u v t n is some_ h = grind (arith, same_self)

-- ---- what a rest is closed by

texts_bytes : (r : List ℕ) → all_bytes (map Text r) ≡ r
texts_bytes [] = refl
texts_bytes (b ∷ r) = ap (λ x. b ∷ x) (texts_bytes r)

foreign_bytes : (r : List ℕ) → all_bytes (map ForeignByte r) ≡ r
foreign_bytes [] = refl
foreign_bytes (b ∷ r) = ap (λ x. b ∷ x) (foreign_bytes r)

-- the bytes of what closes a rest are the rest, but for an open sequence
closing_bytes : (k : ParserState) (r : List ℕ) → NotOpen k → all_bytes (closing_in k r) ≡ r
closing_bytes Exit [] is = refl
closing_bytes OverlongLine [] is = refl
closing_bytes OtherLanguage [] is = refl
closing_bytes Pcl [] is = refl
closing_bytes Exit (b ∷ r) is = grind (arith, texts_bytes, append-nil)
closing_bytes OverlongLine (b ∷ r) is = append-nil (b ∷ r)
closing_bytes OtherLanguage (b ∷ r) is = foreign_bytes (b ∷ r)
closing_bytes Pcl (b ∷ r) is = append-nil (b ∷ r)
closing_bytes (Open c g) r is = absurd is

-- ---- closed splits, from their front

-- the front of a closed split: a rest that is closed, or a Head with what closes the bytes after it
data Prefix (m : ParserState) (x : List ℕ) (all : List Token) : Type 0 where
  Rest : all ≡ closing m x → NoHead m x → Prefix m x all
  First : (u v : List ℕ) (t : Token) (n : ParserState) (others : List Token) → x ≡ u ++ v → Head m u v t n → ClosedFrom n v others → all ≡ t ∷ others → Prefix m x all

prefix-at : (commands : List Token) (m : ParserState) (x : List ℕ) (all : List Token) (k : ParserState) (r : List ℕ)
    → Steps m x commands k r → NoHead k r → all ≡ commands ++ closing k r → Prefix m x all
prefix-at [] m x all k r s short e =
    let P : ParserState → List ℕ → Type 0 = λ n z. Prefix n z all in
    subst (λ (n : ParserState). P n x) (sym s.0) (subst (λ (z : List ℕ). P k z) (sym s.1) (Rest e short))
prefix-at (t ∷ commands) m x all k r s short e =
    First s.0 s.1 t s.2 (commands ++ closing k r) s.3 s.4 (commands, k, r, record { steps = s.5; short = short }, refl) e

prefix : (m : ParserState) (x : List ℕ) (all : List Token) → ClosedFrom m x all → Prefix m x all
prefix m x all closed = prefix-at closed.0 m x all closed.1 closed.2 closed.3.steps closed.3.short closed.4

-- the bytes of the commands begin as the bytes did, but in an open sequence
closed_first : (m : ParserState) (b : ℕ) (x : List ℕ) (all : List Token) → NotOpen (scanned_in m (b ∷ x)) → ClosedFrom m (b ∷ x) all → (z : List ℕ) × (all_bytes all ≡ b ∷ z)
closed_first m b x all is closed =
    elim (prefix m (b ∷ x) all closed) [
      | Rest e short ↦ (x, ap all_bytes e ∙ closing_bytes (scanned_in m (b ∷ x)) (b ∷ x) is)
      | First u v t n others cut head after e ↦
          let k = scanned_in m (u ++ v) in
          let not_open : NotOpen k = subst (λ (y : List ℕ). NotOpen (scanned_in m y)) cut is in
          let same : SameFirst (u ++ v) (bytes_of t ++ all_bytes others) =
          grind (arith, command_first k u v t n not_open (head-some m u v t n head) head) in
          let found = first_is b x (bytes_of t ++ all_bytes others) (same_along (u ++ v) (b ∷ x) (bytes_of t ++ all_bytes others) (sym cut) same) in
          (found.0, ap all_bytes e ∙ found.1)
    ]

-- ---- texts that are differed from

-- Of a mode and a test of bytes: a command that stands there is one byte and leaves the mode, or begins with a byte that fails the test.
abbrev Begins : ParserState → (ℕ → Type 0) → List ℕ → Token → ParserState → Type 0
Begins k Fits u t n = ((b : ℕ) × (u ≡ b ∷ []) × (bytes_of t ≡ b ∷ []) × (n ≡ k)) ⊎ ((b : ℕ) (y : List ℕ) → u ≡ b ∷ y → Fits b → ⊥)

breaks_first : (b : ℕ) (u v : List ℕ) → Breaks Pcl (b ∷ u) v → b ≡ 27
breaks_first b u v h = let on = h.could in goes_on-escape b u on.0 on.1 on.2 on.3 on.4

pcl_begins : (u v : List ℕ) (t : Token) (n : ParserState) → Stands Pcl u v t n → Begins Pcl (λ b. 32 ≤ b) u t n
pcl_begins u v (Text b) n h = inl (b, h.1, refl, h.2)
pcl_begins u v (Broken broken) n h = inr (λ b y e text. absurd (omega (arith, text, breaks_first b y v (subst (λ (z : List ℕ). Breaks Pcl z v) e h.1))))
pcl_begins u v t n h = inr (λ b y e text. grind arith)

abbrev IsOther : ℕ → Type 0
IsOther b = b ≡ 27 → ⊥

foreign_begins : (u v : List ℕ) (t : Token) (n : ParserState) → Stands OtherLanguage u v t n → Begins OtherLanguage IsOther u t n
foreign_begins u v (ForeignByte b) n h = inl (b, h.0, refl, h.2)
foreign_begins u v Uel n h = inr (λ b y e other. other (cc (e, h.0)))
foreign_begins u v _ n h = absurd h

cond_true : (e : Bool) (a b : Bool) → (a ≡ true → b ≡ true) → cond e a true ≡ true → cond e b true ≡ true
cond_true e a b further h = grind arith

-- where bytes that are scanned in such a mode differ from a text of bytes that pass the test, what is written does
module _ (k : ParserState) (Fits : ℕ → Type 0) (shut_is : NotOpen k) (stays : (x : List ℕ) → scanned_in k x ≡ k)
    (begins : (u v : List ℕ) (t : Token) (n : ParserState) → Stands k u v t n → Begins k Fits u t n) where
  differ_again : (mark : List ℕ) → AllByRecursion Fits mark → (m : ParserState) (x : List ℕ) (all : List Token) → scanned_in m x ≡ k → differs mark x ≡ true → ClosedFrom m x all
      → differs mark (all_bytes all) ≡ true
  differ_again [] are m x all is h closed = cc
  differ_again (a ∷ mark) are m [] all is h closed = cc
  differ_again (a ∷ mark) are m (o ∷ x) all is h closed =
      elim (prefix m (o ∷ x) all closed) [
        | Rest e short ↦ ap (differs (a ∷ mark)) (ap all_bytes e ∙ closing_bytes (scanned_in m (o ∷ x)) (o ∷ x) (subst NotOpen (sym is) shut_is)) ∙ h
        | First u v t n others cut head after e ↦
            elim (begins u v t n (subst (λ (s : ParserState). Stands s u v t n) (ap (scanned_in m) (sym cut) ∙ is) head)) [
              | inl (b, spelled, one, next) ↦
                  let whole : o ∷ x ≡ b ∷ v = cut ∙ ap (λ z. z ++ v) spelled in
                  let tail : x ≡ v = cc whole in
                  let after' : ClosedFrom k x others = subst (λ (s : ParserState). ClosedFrom s x others) next (subst (λ (z : List ℕ). ClosedFrom n z others) (sym tail) after) in
                  let bytes : all_bytes all ≡ o ∷ all_bytes others = ap all_bytes e ∙ ap (λ y. y ++ all_bytes others) one ∙ cc whole in
                  ap (differs (a ∷ mark)) bytes
                  ∙ cond_true (eqb a o) (differs mark x) (differs mark (all_bytes others)) (λ d. differ_again mark are.1 k x others (stays x) d after') h
              | inr fails ↦
                  let found = closed_first m o x all (subst NotOpen (sym is) shut_is) closed in
                  let front = same_self u (head-some m u v t n head) in
                  let same : front.first ≡ o = cc (cut ∙ ap (λ z. z ++ v) front.left) in
                  let other : a ≡ o → ⊥ = λ q. fails front.first front.later front.left (subst Fits (q ∙ sym same) are.0) in
                  ap (differs (a ∷ mark)) found.1 ∙ ap (λ t. cond t (differs mark found.0) true) (ne_eqb a o other)
            ]
      ]

-- ---- a command by itself

-- ---- an open sequence, written out

-- reading a sequence from its escape character on comes to its first pair
opened : (c g : ℕ) (x : List ℕ) → IsCharacter c → IsGroup g → read_on Start (escape_byte ∷ c ∷ g ∷ x) ≡ read_on (Pair c g []) x
opened c g x character group =
    rw (
      is_escape-from escape_byte refl,
      is_escape_end-below c (omega (arith, character)),
      is_character-from c character,
      extends-past [] g (omega (arith, group)),
      is_end-above g (omega (arith, group)),
      is_earlier_end-from g group,
    ) refl

-- a command of an open sequence is one of mode Pcl, with the beginning of its sequence
open_stands : (c g : ℕ) (u v : List ℕ) (t : Token) (n : ParserState) → IsCharacter c → IsGroup g → Stands (Open c g) u v t n → Stands Pcl (escape_byte ∷ c ∷ g ∷ u) v t n
open_stands c g u v t n character group h =
    let read : reading Pcl (escape_byte ∷ c ∷ g ∷ (u ++ v)) ≡ Found t n v = opened c g (u ++ v) character group ∙ stands_reads (Open c g) u v t n h in
    let at = read_head Pcl (escape_byte ∷ c ∷ g ∷ (u ++ v)) t n v read in
    let used : at.used ≡ escape_byte ∷ c ∷ g ∷ u = append_cancel_right at.used (escape_byte ∷ c ∷ g ∷ u) v (sym at.cut) in
    subst (λ (z : List ℕ). Stands Pcl z v t n) used at.head

-- where no command of an open sequence stands, none of mode Pcl does
open_short : (c g : ℕ) (x : List ℕ) → IsCharacter c → IsGroup g → scanned_in (Open c g) x ≡ Open c g → NoHead (Open c g) x → NoHead Pcl (escape_byte ∷ c ∷ g ∷ x)
open_short c g x character group is short = grind (arith, short-NoHead Pcl (escape_byte ∷ c ∷ g ∷ x) (opened c g x character group ∙ short_at (read_on (Pair c g []) x) refl))
  where
    short_at : (a : Reading) → read_on (Pair c g []) x ≡ a → read_on (Pair c g []) x ≡ Short
    short_at Short e = e
    short_at (Found t n left) e =
        let at = read_head (Open c g) x t n left (ap (λ k. reading_in k x) is ∙ e) in
        absurd (short at.used left t n at.cut at.head)

-- ---- a Head again

-- what follows a command in the stream, and what follows it written out
record Follows (n : ParserState) (v w : List ℕ) : Type 0 where
  first : (b : ℕ) (later : List ℕ) → NotOpen (scanned_in n (b ∷ later)) → v ≡ b ∷ later → (z : List ℕ) × (w ≡ b ∷ z)
  foreign : (mark : List ℕ) → AllByRecursion IsOther mark → n ≡ OtherLanguage → differs mark v ≡ true → differs mark w ≡ true

follows : (n : ParserState) (v : List ℕ) (others : List Token) → ClosedFrom n v others → Follows n v (all_bytes others)
follows n v others closed = record {
  first = λ b later is e. closed_first n b later others is (subst (λ (z : List ℕ). ClosedFrom n z others) e closed);
  foreign = λ mark are e h. differ_again OtherLanguage _ tt (λ _. refl) foreign_begins mark are n v others (ap (λ k. scanned_in k v) e) h closed;
}

-- a command of PCL leaves mode Pcl where it breaks
pcl_next : (n : ParserState) (v w : List ℕ) → Follows n v w → (b : ℕ) (later : List ℕ) → n ≡ Pcl → v ≡ b ∷ later → (z : List ℕ) × (w ≡ b ∷ z)
pcl_next n v w next b later is e = next.first b later (subst (λ (k : ParserState). NotOpen (scanned_in k (b ∷ later))) (sym is) tt) e

-- a command in the mode in which it is scanned, written out in that mode
stands_again : (k : ParserState) (u v w : List ℕ) (t : Token) (n : ParserState) → NotOpen k → Follows n v w → Stands k u v t n → Stands k (bytes_of t) w t (shut n)
stands_again Exit u v w (PjlLine line) n is next h =
    (refl, subst IsPjlLine (sym h.0) h.1, ap shut h.2 ∙ shut-mode_after u ∙ ap mode_after (sym h.0))
stands_again Exit u v w (Broken bytes) n is next h = (
  refl,
  (
    subst BeginsLine (sym h.0) h.1.0,
    elim h.1.1 [
      | inl cut ↦
          let found = next.first escape_byte cut.0 (subst (λ (k : ParserState). NotOpen (scanned_in k (escape_byte ∷ cut.0))) (sym cut.3) tt) cut.1 in
          inl (found.0, found.1, subst (λ (z : List ℕ). length z < longest_line) (sym h.0) cut.2, ap shut cut.3)
      | inr full ↦ inr (ap length h.0 ∙ full.0, ap shut full.1)
    ],
  ),
)
stands_again OverlongLine u v w (Broken bytes) n is next h =
    (refl, (h.1.0, h.0 ∙ h.1.1, ap shut h.1.2 ∙ shut-cond (eqb h.1.0 10) Exit OverlongLine refl refl))
stands_again OtherLanguage u v w Uel n is next h = (refl, ap shut h.1)
stands_again OtherLanguage u v w (ForeignByte b) n is next h =
    (refl, cond_true (eqb 27 b) _ _ (λ d. next.foreign (37 ∷ 45 ∷ 49 ∷ 50 ∷ 51 ∷ 52 ∷ 53 ∷ 88 ∷ []) uel_others h.2 d) h.1, ap shut h.2)
  where
    uel_others : AllByRecursion IsOther (37 ∷ 45 ∷ 49 ∷ 50 ∷ 51 ∷ 52 ∷ 53 ∷ 88 ∷ [])
    uel_others = grind arith
stands_again Pcl u v w t n is next h = grind (arith, pcl_next n v w next)
stands_again (Open c g) u v w t n is next h = absurd is
stands_again _ u v w _ n is next h = absurd h

-- the text that a PJL line begins with
mark_texts : AllByRecursion (λ b. 32 ≤ b) pjl_mark
mark_texts = (omega arith, (omega arith, (omega arith, (omega arith, tt))))

-- in mode Exit: written out, the bytes are scanned in the same mode
exit_again : (d : Bool) (u v : List ℕ) (t : Token) (n : ParserState) (others : List Token) → differs pjl_mark (u ++ v) ≡ d → Head Exit u v t n → ClosedFrom n v others
    → scanned_in Exit (bytes_of t ++ all_bytes others) ≡ cond d Pcl Exit
exit_again true u v t n others e head after =
    let closed : ClosedFrom Exit (u ++ v) (t ∷ others) = (t ∷ after.0, after.1, after.2, record { steps = (u, v, n, refl, head, after.3.steps); short = after.3.short }, ap (λ c. t ∷ c) after.4) in
    ap (λ b. cond b Pcl Exit) (differ_again Pcl _ tt (λ _. refl) pcl_begins pjl_mark mark_texts Exit (u ++ v) (t ∷ others) (ap (λ b. cond b Pcl Exit) e) e closed)
exit_again false u v t n others e head after =
    ap (λ b. cond b Pcl Exit) (begins t (subst (λ (b : Bool). Stands (cond b Pcl Exit) u v t n) e head))
  where
    begins : (t' : Token) → Stands Exit u v t' n → differs pjl_mark (bytes_of t' ++ all_bytes others) ≡ false
    begins t' h = grind arith

-- a command that stands in the mode in which it is scanned, written out there, and the mode after it
both_again : (k : ParserState) (u v : List ℕ) (t : Token) (n : ParserState) (others : List Token) → NotOpen k → ClosedFrom n v others → Stands k u v t n
    → Stands k (bytes_of t) (all_bytes others) t (shut n) × Proper n
both_again k u v t n others is after h = (stands_again k u v (all_bytes others) t n is (follows n v others after) h, grind arith)

-- A command is a Head again where it is written out, before what follows it is.
abbrev IsHeadAgain : ParserState → Token → ParserState → List Token → Type 0
IsHeadAgain m t n others = Head (shut m) (bytes_of t) (all_bytes others) t (shut n) × Proper n

exit_head : (d : Bool) (u v : List ℕ) (t : Token) (n : ParserState) (others : List Token) → differs pjl_mark (u ++ v) ≡ d → Head Exit u v t n → ClosedFrom n v others
    → NotOpen (cond d Pcl Exit) → IsHeadAgain Exit t n others
exit_head d u v t n others e head after is =
    let there : Stands (cond d Pcl Exit) u v t n = subst (λ (b : Bool). Stands (cond b Pcl Exit) u v t n) e head in
    let both = both_again (cond d Pcl Exit) u v t n others is after there in
    (subst (λ (k : ParserState). Stands k (bytes_of t) (all_bytes others) t (shut n)) (sym (exit_again d u v t n others e head after)) both.0, both.1)

exit_head-at : (d : Bool) (u v : List ℕ) (t : Token) (n : ParserState) (others : List Token) → differs pjl_mark (u ++ v) ≡ d → Head Exit u v t n → ClosedFrom n v others → IsHeadAgain Exit t n others
exit_head-at true u v t n others e head after = exit_head true u v t n others e head after tt
exit_head-at false u v t n others e head after = exit_head false u v t n others e head after tt

open_head : (b : Bool) (c g a : ℕ) (u v : List ℕ) (t : Token) (n : ParserState) (others : List Token) → IsCharacter c → IsGroup g → begins_pair a ≡ b → Head (Open c g) (a ∷ u) v t n
    → ClosedFrom n v others → IsHeadAgain (Open c g) t n others
open_head true c g a u v t n others character group e head after =
    let there : Stands (Open c g) (a ∷ u) v t n = subst (λ (b : Bool). Stands (cond b (Open c g) Pcl) (a ∷ u) v t n) e head in
    both_again Pcl (escape_byte ∷ c ∷ g ∷ a ∷ u) v t n others tt after (open_stands c g (a ∷ u) v t n character group there)
open_head false c g a u v t n others character group e head after =
    both_again Pcl (a ∷ u) v t n others tt after (subst (λ (b : Bool). Stands (cond b (Open c g) Pcl) (a ∷ u) v t n) e head)

head_again : (m : ParserState) (u v : List ℕ) (t : Token) (n : ParserState) (others : List Token) → Proper m → Head m u v t n → ClosedFrom n v others → IsHeadAgain m t n others
head_again Exit u v t n others proper head after = exit_head-at (differs pjl_mark (u ++ v)) u v t n others refl head after
head_again OverlongLine [] v t n others proper head after = absurd (head-some OverlongLine [] v t n head refl)
head_again OverlongLine (a ∷ u) v t n others proper head after = grind (arith, eqb-true, both_again, first_is, command_first)
head_again OtherLanguage u v t n others proper head after = both_again OtherLanguage u v t n others tt after head
head_again Pcl u v t n others proper head after = both_again Pcl u v t n others tt after head
head_again (Open c g) [] v t n others proper head after = absurd (head-some (Open c g) [] v t n head refl)
head_again (Open c g) (a ∷ u) v t n others proper head after = open_head (begins_pair a) c g a u v t n others proper.0 proper.1 refl head after

-- ---- the rest again

-- what is scanned as it stands is closed by what its mode says
rest_closed : (m : ParserState) (x : List ℕ) → NoHead m x → ClosedFrom m x (closing m x)
rest_closed m x short = ([], m, x, record { steps = (refl, refl); short = short }, refl)

not_open_rest : (m : ParserState) (x : List ℕ) → NotOpen m → NotOpen (scanned_in m x)
not_open_rest m x is = grind arith

plain_rest : (m : ParserState) (x : List ℕ) → NotOpen m → NoHead m x → ClosedFrom m (all_bytes (closing m x)) (closing m x)
plain_rest m x is short = grind (arith, closing_bytes, not_open_rest)

open_rest : (b : Bool) (c g a : ℕ) (x : List ℕ) → IsCharacter c → IsGroup g → begins_pair a ≡ b → NoHead (Open c g) (a ∷ x)
    → let all = closing_in (cond b (Open c g) Pcl) (a ∷ x) in ClosedFrom Pcl (all_bytes all) all
open_rest true c g a x character group e short =
    let bytes = escape_byte ∷ c ∷ g ∷ a ∷ x in
    let none : NoHead Pcl bytes = open_short c g (a ∷ x) character group (ap (λ b. cond b (Open c g) Pcl) e) short in
    subst (λ (z : List ℕ). ClosedFrom Pcl z (Broken bytes ∷ [])) (sym (append-nil bytes)) (rest_closed Pcl bytes none)
open_rest false c g a x character group e short =
    let none : NoHead Pcl (a ∷ x) = λ u v t n cut head.
    short u v t n cut (subst (λ (k : ParserState). Stands k u v t n) (sym (ap (scanned_in (Open c g)) (sym cut) ∙ ap (λ b. cond b (Open c g) Pcl) e)) head) in
    subst (λ (z : List ℕ). ClosedFrom Pcl z (Broken (a ∷ x) ∷ [])) (sym (append-nil (a ∷ x))) (rest_closed Pcl (a ∷ x) none)

closing_again : (m : ParserState) (x : List ℕ) → Proper m → NoHead m x → ClosedFrom (shut m) (all_bytes (closing m x)) (closing m x)
closing_again Exit x proper short = plain_rest Exit x tt short
closing_again OverlongLine x proper short = plain_rest OverlongLine x tt short
closing_again OtherLanguage x proper short = plain_rest OtherLanguage x tt short
closing_again Pcl x proper short = plain_rest Pcl x tt short
closing_again (Open c g) [] proper short = nothing_closed Pcl
closing_again (Open c g) (a ∷ x) proper short =
    let P : Bool → Type 0 = λ b. ClosedFrom Pcl (all_bytes (closing_in (cond b (Open c g) Pcl) (a ∷ x))) (closing_in (cond b (Open c g) Pcl) (a ∷ x)) in
    subst P refl (open_rest (begins_pair a) c g a x proper.0 proper.1 refl short)

-- ---- a stream again

again-at : (commands : List Token) (m : ParserState) (x : List ℕ) (k : ParserState) (r : List ℕ) → Proper m → Steps m x commands k r → NoHead k r
    → ClosedFrom (shut m) (all_bytes (commands ++ closing k r)) (commands ++ closing k r)
again-at [] m x k r proper s short =
    subst (λ (mode : ParserState). ClosedFrom (shut mode) (all_bytes (closing k r)) (closing k r)) (sym s.0) (closing_again k r (subst Proper s.0 proper) short)
again-at (t ∷ commands) m x k r proper s short =
    let others = commands ++ closing k r in
    let after : ClosedFrom s.2 s.1 others = (commands, k, r, record { steps = s.5; short = short }, refl) in
    let here = head_again m s.0 s.1 t s.2 others proper s.4 after in
    closed-cons (shut m) (bytes_of t) (all_bytes others) t (shut s.2) others here.0 (again-at commands s.2 s.1 k r here.1 s.5 short)

-- The bytes of the commands that close a stream, each by itself, are closed by these commands.
pub read_again : (bytes : List ℕ) (commands : List Token) → Closed bytes commands → Closed (all_bytes commands) commands
read_again bytes commands closed = grind (arith, again-at)
