-- A line has the form that is read from its left, and no other.
use Rattle.std.proofs.Common.{◌≡◌, ◌∙◌, ◌<◌, ◌≤◌, ◌&&◌, ℕ, List, [], ◌∷◌, ◌++◌, Bool, true, false, cond, not, length}
use Rattle.std.proofs.Common.{take, drop, reverse, position, eqb, nat_lt, refl, sym, ap, subst, inl, inr, arith, append-nil}
use Rattle.std.specs.Prelude.{codes, bytes_eq, Option, Some, None, Ok, option_to_list, option_and_then, ◌⊎◌}
use Rattle.std.specs.Option.{ForSome}
use Rattle.std.specs.List.{list_all, position_or_len}
use Rattle.std.specs.Int.{is_in_range}
use Rattle.std.proofs.lemmas.Bool.{and_parts, not-true, eqb-true, ne_eqb, false_from_ne_true, lt-ltb, le-ltb}
use Rattle.std.proofs.lemmas.List.{reverse-append, reverse-reverse, take-append-drop}
use Rattle.std.proofs.Math.Seq.{drop-append-add, take-append_seam}
use Rattle.std.proofs.lemmas.List.Folds.{list_all-append}
use Rattle.std.proofs.lemmas.Slice.Eq.{bytes_eq-Decides}
use Rattle.hex.specs.Hex.{decode_of, is_hex_digit}
use Rattle.hex.proofs.HexLemmas.{decode_of-ok, decode_sized-twice}
use Rattle.press_cmd.specs.Grammar.{IsCharacter, IsGroup, IsEnd, IsControl, IsText}
use Rattle.press_cmd.proofs.ByteTests.{range-true, range-from, range-below}
use Rattle.press_asm.specs.Form.{Form, Blank, ExitForm, ParamForm, ControlForm, TextForm, is_space, is_no_space, word, spaced, IsWord, Spells, HasForm}
use Rattle.press_asm.specs.Reading.{are_digits, only_byte, byte_of, escape_in, control_form, text_form, foreign_form, split_group}
use Rattle.press_asm.specs.Reading.{param_ending, word_in, param_at, param_in, named_in, is_blank, form_of}

-- ---- the first space

first_all : (w : List ℕ) → list_all is_no_space w ≡ true → position_or_len is_space w ≡ length w
first_all [] h = refl
first_all (b ∷ w) h = grind (arith, first_all w (and_parts (is_no_space b) (list_all is_no_space w) h).1)

first_at : (w d : List ℕ) → list_all is_no_space w ≡ true → position_or_len is_space (w ++ (32 ∷ d)) ≡ length w
first_at [] d h = refl
first_at (b ∷ w) d h = grind (arith, first_at w d (and_parts (is_no_space b) (list_all is_no_space w) h).1)

none_below : (n m : ℕ) → m ≤ n → cond (nat_lt n m) (Some n) None ≡ None
none_below n m h = ap (λ t. cond t (Some n) None) (le-ltb n m h)

some_below : (n m k : ℕ) → n ≡ k → n < m → cond (nat_lt n m) (Some n) None ≡ Some k
some_below n m k e h = grind (arith, lt-ltb n m h, e)

position_none : (w : List ℕ) → list_all is_no_space w ≡ true → position is_space w ≡ None
position_none w h = none_below (position_or_len is_space w) (length w) (omega (arith, first_all w h))

longer : (w d : List ℕ) → length w < length (w ++ (32 ∷ d))
longer [] d = omega arith
longer (b ∷ w) d = omega (arith, longer w d)

position_some : (w d : List ℕ) → list_all is_no_space w ≡ true → position is_space (w ++ (32 ∷ d)) ≡ Some (length w)
position_some w d h = some_below (position_or_len is_space (w ++ (32 ∷ d))) (length (w ++ (32 ∷ d))) (length w) (first_at w d h) (omega (arith, first_at w d h, longer w d))

-- a text is one word, or a word and what follows a space
data Cut (x : List ℕ) : Type 0 where
  Word : list_all is_no_space x ≡ true → Cut x
  Parts : (w d : List ℕ) → x ≡ w ++ (32 ∷ d) → list_all is_no_space w ≡ true → Cut x

cut_at : (b : ℕ) (x : List ℕ) (t : Bool) → eqb b 32 ≡ t → Cut x → Cut (b ∷ x)
cut_at b x true e h = Parts [] x (ap (λ c. c ∷ x) (eqb-true b 32 e)) refl
cut_at b x false e (Word h) = Word (ap (λ t. not t && list_all is_no_space x) e ∙ h)
cut_at b x false e (Parts w d cut h) = Parts (b ∷ w) d (ap (λ y. b ∷ y) cut) (ap (λ t. not t && list_all is_no_space w) e ∙ h)

cut : (x : List ℕ) → Cut x
cut [] = Word refl
cut (b ∷ x) = cut_at b x (eqb b 32) refl (cut x)

param_word : (w : List ℕ) → list_all is_no_space w ≡ true → param_in w ≡ word_in w []
param_word w h = ap (λ o. param_at o w) (position_none w h)

param_parts : (w d : List ℕ) → list_all is_no_space w ≡ true → param_in (w ++ (32 ∷ d)) ≡ cond (are_digits d) (word_in w d) None
param_parts w d h = grind (arith, position_some, drop-append-add, take-append_seam)

-- ---- words

exit_other : (w : List ℕ) → (w ≡ codes "%-12345X" → ⊥) → bytes_eq w (codes "%-12345X") ≡ false
exit_other w h = false_from_ne_true _ (λ t. h ((bytes_eq-Decides w (codes "%-12345X")).0 t))

exit_not : (w : List ℕ) → bytes_eq w (codes "%-12345X") ≡ false → w ≡ codes "%-12345X" → ⊥
exit_not w h e = let t = (bytes_eq-Decides w (codes "%-12345X")).1 e in cc

ending : (w : List ℕ) (c : ℕ) (g : Option ℕ) (f : List ℕ) (e : ℕ) (d : List ℕ) → IsCharacter c → IsEnd e → (w ≡ codes "%-12345X" → ⊥)
    → param_ending (bytes_eq w (codes "%-12345X")) c g (reverse (f ++ (e ∷ []))) d ≡ Some (ParamForm c g f e d)
ending w c g f e d character end no_exit = grind (arith, reverse-append, exit_other, reverse-reverse)

no_group_split : (f : List ℕ) (e : ℕ) → IsEnd e → ((b : ℕ) (later : List ℕ) → f ≡ b ∷ later → IsGroup b → ⊥) → split_group (f ++ (e ∷ [])) ≡ (None, f ++ (e ∷ []))
no_group_split [] e end none = ap (λ t. cond t (Some e, []) (None, e ∷ [])) (range-below 96 126 e (omega (arith, end)))
no_group_split (b ∷ f) e end none = grind arith

word_complete : (c : ℕ) (g : Option ℕ) (f : List ℕ) (e : ℕ) (d : List ℕ) → IsWord c g f e → word_in (word c g f e) d ≡ Some (ParamForm c g f e d)
word_complete c None f e d is =
    grind (arith, no_group_split f e is.end_class (λ b later eq. is.no_group b later refl eq), ending (word c None f e) c None f e d is.character_class is.end_class is.no_exit)
word_complete c (Some g) f e d is = grind (arith, range-from 96 126 g (is.group_class g refl), ending (word c (Some g) f e) c (Some g) f e d is.character_class is.end_class is.no_exit)

no_space : (b : ℕ) → (b ≡ 32 → ⊥) → is_no_space b ≡ true
no_space b h = ap not (ne_eqb b 32 h)

no_space_end : (f : List ℕ) (e : ℕ) → list_all is_no_space f ≡ true → IsEnd e → list_all is_no_space (f ++ (e ∷ [])) ≡ true
no_space_end f e h end = grind (arith, list_all-append is_no_space f (e ∷ []), h, no_space e (λ q. omega (arith, end, q)))

word_no_space : (c : ℕ) (g : Option ℕ) (f : List ℕ) (e : ℕ) → IsWord c g f e → list_all is_no_space (word c g f e) ≡ true
word_no_space c g f e is = grind (arith, no_space_end)

param_complete : (c : ℕ) (g : Option ℕ) (f : List ℕ) (e : ℕ) (d : List ℕ) → IsWord c g f e → list_all is_hex_digit d ≡ true
    → param_in (word c g f e ++ spaced d) ≡ Some (ParamForm c g f e d)
param_complete c g f e [] is digits = grind (arith, append-nil (word c g f e), param_word (word c g f e) (word_no_space c g f e is), word_complete c g f e [] is)
param_complete c g f e (x ∷ d) is digits = grind (arith, param_parts (word c g f e) (x ∷ d) (word_no_space c g f e is), digits, word_complete c g f e (x ∷ d) is)

-- ---- bytes of two digits, and digits

byte_complete : (digits : List ℕ) (b : ℕ) → decode_of digits ≡ Ok (b ∷ []) → byte_of digits ≡ Some b
byte_complete digits b h = ap only_byte (decode_sized-twice digits 1 (decode_of-ok digits (b ∷ []) h).2 ∙ h)

digits_complete : (digits : List ℕ) → list_all is_hex_digit digits ≡ true → (digits ≡ [] → ⊥) → are_digits digits ≡ true
digits_complete digits h some_ = grind arith

control_complete : (b : ℕ) → IsControl b → control_form b ≡ Some (ControlForm b)
control_complete b is = grind arith

text_complete : (b : ℕ) → IsText b → text_form b ≡ Some (TextForm b)
text_complete b is = ap (λ t. cond t (Some (TextForm b)) None) (range-from 32 255 b is)

-- The form that a line is spelled as is read.
pub complete : (line : List ℕ) (form : Form) → Spells line form → form_of line ≡ Some form
complete line form e = grind (arith, param_complete, byte_complete, control_complete, text_complete, digits_complete)

-- A line is spelled as at most one form is.
one_spelled : (line : List ℕ) (form form' : Form) → Spells line form → Spells line form' → form ≡ form'
one_spelled line form form' h h' = let e : Some form ≡ Some form' = sym (complete line form h) ∙ complete line form' h' in cc

-- A line has at most one form.
pub one_form : (line : List ℕ) (form form' : Form) → HasForm line form → HasForm line form' → form ≡ form'
one_form line form form' h h' = one_spelled line form form' h.1 h'.1

-- ---- what is read, the line has

-- one of two
pick : {X : Type 0} (b : Bool) (x y : Option X) (form : X) → cond b x y ≡ Some form → ((b ≡ true) × (x ≡ Some form)) ⊎ ((b ≡ false) × (y ≡ Some form))
pick b x y form h = grind arith

-- a test that was passed
passed : {X : Type 0} (b : Bool) (x form : X) → cond b (Some x) None ≡ Some form → (b ≡ true) × (x ≡ form)
passed b x form h = grind arith

passed_on : {X : Type 0} (b : Bool) (x : Option X) (form : X) → cond b x None ≡ Some form → (b ≡ true) × (x ≡ Some form)
passed_on b x form h = grind arith

-- a word of a parameter: its parts
record WordRead (w d : List ℕ) (form : Form) : Type 0 where
  character : ℕ
  group : Option ℕ
  field : List ℕ
  end : ℕ
  same : ParamForm character group field end d ≡ form
  spelled : w ≡ word character group field end
  is_word : IsWord character group field end

first_group : (f : List ℕ) (e b : ℕ) (rest later : List ℕ) → b ∷ rest ≡ f ++ (e ∷ []) → is_in_range 96 126 b ≡ false → (byte : ℕ) → f ≡ byte ∷ later → IsGroup byte → ⊥
first_group f e b rest later whole other byte h is = grind arith

ended : (c : ℕ) (g : Option ℕ) (rest r d w : List ℕ) (form : Form) → r ≡ reverse rest → w ≡ c ∷ (option_to_list g ++ rest) → ForSome g IsGroup
    → ((f : List ℕ) (e : ℕ) → rest ≡ f ++ (e ∷ []) → (byte : ℕ) (later : List ℕ) → g ≡ None → f ≡ byte ∷ later → IsGroup byte → ⊥)
    → list_all is_no_space rest ≡ true → param_ending (bytes_eq w (codes "%-12345X")) c g r d ≡ Some form → WordRead w d form
ended c g rest [] d w form turned spelled group none plain h = cc
ended c g rest (e ∷ f) d w form turned spelled group none plain h =
    let back : rest ≡ reverse f ++ (e ∷ []) = sym (reverse-reverse rest) ∙ ap reverse (sym turned) ∙ reverse-append (e ∷ []) f in
    let found = passed (not (bytes_eq w (codes "%-12345X")) && (is_in_range 33 47 c && is_in_range 64 94 e)) (ParamForm c g (reverse f) e d) form h in
    let tests = and_parts (not (bytes_eq w (codes "%-12345X"))) (is_in_range 33 47 c && is_in_range 64 94 e) found.0 in
    let ranges = and_parts (is_in_range 33 47 c) (is_in_range 64 94 e) tests.1 in
    let whole : w ≡ word c g (reverse f) e = spelled ∙ ap (λ x. c ∷ (option_to_list g ++ x)) back in
    let one = and_parts (list_all is_no_space (reverse f)) (is_no_space e && true) (sym (list_all-append is_no_space (reverse f) (e ∷ [])) ∙ ap (list_all is_no_space) (sym back) ∙ plain) in
    record {
      character = c;
      group = g;
      field = reverse f;
      end = e;
      same = found.1;
      spelled = whole;
      is_word = record {
        character_class = range-true 33 47 c ranges.0;
        group_class = group;
        no_group = λ byte later. none (reverse f) e back byte later;
        one_word = one.0;
        end_class = range-true 64 94 e ranges.1;
        no_exit = λ exit. exit_not w (not-true _ tests.0) (whole ∙ exit);
      };
    }

grouped_word : (c b : ℕ) (rest d : List ℕ) (form : Form) (t : Bool) → is_in_range 96 126 b ≡ t → list_all is_no_space rest ≡ true → list_all is_no_space (b ∷ rest) ≡ true
    → (let s : Option ℕ × List ℕ = cond t (Some b, rest) (None, b ∷ rest) in
    param_ending (bytes_eq (c ∷ b ∷ rest) (codes "%-12345X")) c s.0 (reverse s.1) d ≡ Some form)
    → WordRead (c ∷ b ∷ rest) d form
grouped_word c b rest d form true is later plain h =
    ended c (Some b) rest (reverse rest) d (c ∷ b ∷ rest) form refl refl
    (λ x e. let same : b ≡ x = cc e in let P : ℕ → Type 0 = λ y. IsGroup y in subst P same (range-true 96 126 b is))
    (λ f e cut byte later none. absurd (cc none)) later h
grouped_word c b rest d form false is later plain h =
    ended c None (b ∷ rest) (reverse (b ∷ rest)) d (c ∷ b ∷ rest) form refl refl (λ x e. absurd (cc e)) (λ f e cut byte later none. first_group f e b rest later cut is byte) plain h

-- the digits of a parameter
digits_sound : (d : List ℕ) → are_digits d ≡ true → (list_all is_hex_digit d ≡ true) × (32 ∷ d ≡ spaced d) × (d ≡ [] → ⊥)
digits_sound d h = grind arith

word_has : (line text w d : List ℕ) (form : Form) → line ≡ codes "par " ++ text → text ≡ w ++ spaced d → list_all is_hex_digit d ≡ true → WordRead w d form → Spells line form
word_has line text w d form spelled cut digits r = grind arith

param_sound : (line text : List ℕ) (form : Form) → line ≡ codes "par " ++ text → param_in text ≡ Some form → Spells line form
param_sound line text form spelled h =
    elim (cut text) [
      | Word plain ↦ word_has line text text [] form spelled (sym (append-nil text)) refl (grind (arith, grouped_word, sym (param_word text plain) ∙ h))
      | Parts w d e plain ↦
          let read = passed_on (are_digits d) (word_in w d) form (sym (ap param_in e ∙ param_parts w d plain) ∙ h) in
          let digits = digits_sound d read.0 in
          word_has line text w d form spelled (e ∙ ap (λ x. w ++ x) digits.1) digits.0 (grind (arith, grouped_word, read.1))
    ]

-- a byte of two digits
and_then_some : {X Y : Type 0} (f : X → Option Y) (o : Option X) (y : Y) → option_and_then f o ≡ Some y → (x : X) × (o ≡ Some x) × (f x ≡ Some y)
and_then_some f o y h = grind arith

control_sound : (line rest : List ℕ) (b : ℕ) (form : Form) → line ≡ codes "ctl " ++ rest → byte_of rest ≡ Some b → control_form b ≡ Some form → Spells line form
control_sound line rest b form spelled byte h = grind arith

text_sound : (line rest : List ℕ) (b : ℕ) (form : Form) → line ≡ codes "txt " ++ rest → byte_of rest ≡ Some b → text_form b ≡ Some form → Spells line form
text_sound line rest b form spelled byte h = grind arith

escape_sound : (line rest : List ℕ) (form : Form) → line ≡ codes "esc " ++ rest → escape_in rest ≡ Some form → Spells line form
escape_sound line rest form spelled h = grind arith

-- the name that stands
named : (line name rest text : List ℕ) → line ≡ name ++ rest → bytes_eq name text ≡ true → line ≡ text ++ rest
named line name rest text cut h = grind (arith, cut, (bytes_eq-Decides name text).0 h)

named_sound : (line name rest : List ℕ) (form : Form) → line ≡ name ++ rest → named_in name rest ≡ Some form → Spells line form
named_sound line name rest form cut h =
    elim (pick (bytes_eq name (codes "esc ")) _ _ form h) [
      | inl y ↦ escape_sound line rest form (named line name rest (codes "esc ") cut y.0) y.1
      | inr n1 ↦ elim (pick (bytes_eq name (codes "par ")) _ _ form n1.1) [
        | inl y ↦ param_sound line rest form (named line name rest (codes "par ") cut y.0) y.1
        | inr n2 ↦ elim (pick (bytes_eq name (codes "ctl ")) _ _ form n2.1) [
          | inl y ↦ let b = and_then_some control_form (byte_of rest) form y.1 in control_sound line rest b.0 form (named line name rest (codes "ctl ") cut y.0) b.1 b.2
          | inr n3 ↦ elim (pick (bytes_eq name (codes "txt ")) _ _ form n3.1) [
            | inl y ↦ let b = and_then_some text_form (byte_of rest) form y.1 in text_sound line rest b.0 form (named line name rest (codes "txt ") cut y.0) b.1 b.2
            | inr n4 ↦ elim (pick (bytes_eq name (codes "for ")) _ _ form n4.1) [
              | inl y ↦ let b = and_then_some foreign_form (byte_of rest) form y.1 in grind (arith, named line name rest (codes "for ") cut y.0, b.1, b.2)
              | inr n5 ↦ elim (pick (bytes_eq name (codes "brk ")) _ _ form n5.1) [
                | inl y ↦ grind (arith, named line name rest (codes "brk ") cut y.0, y.1)
                | inr n6 ↦ let y = passed_on (bytes_eq name (codes "pjl ")) _ form n6.1 in grind (arith, named line name rest (codes "pjl ") cut y.0, y.1)
              ]
            ]
          ]
        ]
      ]
    ]

-- The line is spelled as the form that is read.
pub sound : (line : List ℕ) (form : Form) → form_of line ≡ Some form → Spells line form
sound line form h =
    elim (pick (is_blank line) _ _ form h) [
      | inl y ↦ let same : Blank ≡ form = cc y.1 in subst (λ (f : Form). Spells line f) same (grind (arith, y.0))
      | inr n ↦ elim (pick (bytes_eq line (codes "uel")) _ _ form n.1) [
        | inl y ↦ let same : ExitForm ≡ form = cc y.1 in subst (λ (f : Form). Spells line f) same ((bytes_eq-Decides line (codes "uel")).0 y.0)
        | inr m ↦ named_sound line (take 4 line) (drop 4 line) form (sym (take-append-drop 4 line)) m.1
      ]
    ]

-- Where none is read, the line has none.
pub no_form : (line : List ℕ) → form_of line ≡ None → (form : Form) → HasForm line form → ⊥
no_form line none form h = let e : None ≡ Some form = sym none ∙ complete line form h.1 in cc
