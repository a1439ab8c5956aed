-- Reading finds each whole command, whatever follows it.
use Rattle.std.proofs.Common.{◌≡◌, ◌-◌, ◌∙◌, ℕ, zero, suc, List, [], ◌∷◌, ◌++◌, length, true, false, Some, None, refl, ap, arith, append_assoc}
use Rattle.std.proofs.lemmas.List.{append-nil}
use Rattle.std.proofs.lemmas.Bool.{false_from_ne_true}
use Rattle.std.proofs.lemmas.Slice.Eq.{bytes_eq-Decides}
use Rattle.std.proofs.lemmas.Grind.{common_steps}
use Rattle.press_cmd.specs.Token.{Token, Escape, Grouped, Ungrouped, Control, Text, Uel, uel, escape_byte}
use Rattle.press_cmd.specs.ParserState.{ParserState, Exit, Pcl, Open}
use Rattle.press_cmd.specs.Carried.{data_count}
use Rattle.press_units.specs.Field.{is_value_field}
use Rattle.press_cmd.specs.Grammar.{Whole, IsPair, IsGrouped, IsUngrouped, IsEnd, IsEarlierEnd, value_pair}
use Rattle.press_cmd.proofs.Reading.{State, Start, Single, Pair, SingleData, PairData, Step}
use Rattle.press_cmd.proofs.Reading.{Found, extends, is_end, is_escape_end, is_character}
use Rattle.press_cmd.proofs.Reading.{is_escape, is_exit, single_with, pair_with, step, after_step, read_on}
use Rattle.press_units.proofs.FieldTest.{test-from_IsField, test-prefix}
use Rattle.press_cmd.proofs.ByteTests.{is_end-from, is_end-above, is_earlier_end-from, is_escape_end-from}
use Rattle.press_cmd.proofs.ByteTests.{is_escape_end-below, is_character-from, is_text-from, is_escape-from}
use Rattle.press_cmd.proofs.ByteTests.{is_escape-other, is_control-from, is_control-above, extends-from, extends-past}

-- more bytes after what was found change nothing but what is left
stable-at : (o : Step) (b : ℕ) (x y : List ℕ) (t : Token) (n : ParserState) (left : List ℕ) → after_step o b x (λ s. read_on s x) ≡ Found t n left
    → ((s : State) → read_on s x ≡ Found t n left → read_on s (x ++ y) ≡ Found t n (left ++ y))
    → after_step o b (x ++ y) (λ s. read_on s (x ++ y)) ≡ Found t n (left ++ y)
stable-at o b x y t n left h further = grind arith

pub stable : (s : State) (x y : List ℕ) (t : Token) (n : ParserState) (left : List ℕ) → read_on s x ≡ Found t n left → read_on s (x ++ y) ≡ Found t n (left ++ y)
stable s [] y t n left h = cc
stable s (b ∷ x) y t n left h = stable-at (step s b) b x y t n left h (λ further. stable further x y t n left)

-- a field is read byte by byte
pub pair_field : (c g : ℕ) (f more z : List ℕ) → is_value_field (f ++ more) ≡ true → read_on (Pair c g f) (more ++ z) ≡ read_on (Pair c g (f ++ more)) z
pair_field c g f [] z h = rw append-nil refl
pair_field c g f (b ∷ more) z h =
    grind (arith, append_assoc, extends-from, test-prefix, pair_field c g (f ++ (b ∷ [])) more z (rw append_assoc h))

pub single_field : (c : ℕ) (f more z : List ℕ) → is_value_field (f ++ more) ≡ true → read_on (Single c f) (more ++ z) ≡ read_on (Single c (f ++ more)) z
single_field c f [] z h = rw append-nil refl
single_field c f (b ∷ more) z h =
    grind (arith, append_assoc, extends-from, test-prefix, single_field c (f ++ (b ∷ [])) more z (rw append_assoc h))

-- data is read byte by byte
pair_data : (c g : ℕ) (f : List ℕ) (e : ℕ) (next : ParserState) (n : ℕ) (d more z : List ℕ) → length more ≡ suc n
    → read_on (PairData c g f e next n d) (more ++ z) ≡ Found (Grouped c g f e (d ++ more)) next z
pair_data c g f e next zero d [] z h = absurd (omega arith)
pair_data c g f e next zero d (b ∷ []) z h = refl
pair_data c g f e next zero d (b ∷ a ∷ more) z h = absurd (omega arith)
pair_data c g f e next (suc n) d [] z h = absurd (omega arith)
pair_data c g f e next (suc n) d (b ∷ more) z h = grind (arith, append_assoc, pair_data c g f e next n (d ++ (b ∷ [])) more z (omega arith))

single_data : (c : ℕ) (f : List ℕ) (e : ℕ) (n : ℕ) (d more z : List ℕ) → length more ≡ suc n
    → read_on (SingleData c f e n d) (more ++ z) ≡ Found (Ungrouped c f e (d ++ more)) Pcl z
single_data c f e zero d [] z h = absurd (omega arith)
single_data c f e zero d (b ∷ []) z h = refl
single_data c f e zero d (b ∷ a ∷ more) z h = absurd (omega arith)
single_data c f e (suc n) d [] z h = absurd (omega arith)
single_data c f e (suc n) d (b ∷ more) z h = grind (arith, append_assoc, single_data c f e n (d ++ (b ∷ [])) more z (omega arith))

pair_rest : (c g : ℕ) (f : List ℕ) (e : ℕ) (next : ParserState) (count b : ℕ) (d z : List ℕ) → length d ≡ count
    → after_step (pair_with c g f e next count) b (d ++ z) (λ s. read_on s (d ++ z)) ≡ Found (Grouped c g f e d) next z
pair_rest c g f e next zero b [] z h = refl
pair_rest c g f e next zero b (a ∷ d) z h = absurd (omega arith)
pair_rest c g f e next (suc count) b d z h = pair_data c g f e next count [] d z h

single_rest : (c : ℕ) (f : List ℕ) (e count b : ℕ) (d z : List ℕ) → length d ≡ count → (d ≡ [] → is_exit c f e ≡ false)
    → after_step (single_with c f e count) b (d ++ z) (λ s. read_on s (d ++ z)) ≡ Found (Ungrouped c f e d) Pcl z
single_rest c f e zero b [] z h differs = rw (differs refl) refl
single_rest c f e zero b (a ∷ d) z h differs = absurd (omega arith)
single_rest c f e (suc count) b d z h differs = single_data c f e count [] d z h

-- from its ending byte on a pair is read
pair_upper : (c g : ℕ) (f : List ℕ) (b : ℕ) (d z : List ℕ) → IsEnd b → length d ≡ data_count c (Some g) f b
    → read_on (Pair c g f) (b ∷ (d ++ z)) ≡ Found (Grouped c g f b d) Pcl z
pair_upper c g f b d z is count = rw (extends-past f b (omega arith), is_end-from b is) (pair_rest c g f b Pcl _ b d z count)

pair_lower : (c g : ℕ) (f : List ℕ) (b : ℕ) (d z : List ℕ) → IsEarlierEnd b → length d ≡ data_count c (Some g) f (b - 32)
    → read_on (Pair c g f) (b ∷ (d ++ z)) ≡ Found (Grouped c g f (b - 32) d) (Open c g) z
pair_lower c g f b d z is count =
    rw (extends-past f b (omega arith), is_end-above b (omega arith), is_earlier_end-from b is) (pair_rest c g f (b - 32) (Open c g) _ b d z count)

-- A pair is read, whatever follows it.
pub pair_reads : (c g : ℕ) (w f : List ℕ) (e : ℕ) (d : List ℕ) (next : ParserState) (z : List ℕ) → IsPair c g w (value_pair f e d) next
    → read_on (Pair c g []) (w ++ z) ≡ Found (Grouped c g f e d) next z
pair_reads c g w f e d next z p =
    let field : is_value_field f ≡ true = test-from_IsField f p.value_field in
    grind (arith, p.spelled, append_assoc f (p.byte ∷ d) z, pair_field c g [] f (p.byte ∷ (d ++ z)) field, pair_upper, common_steps, pair_lower, p.ends, p.count)

-- a sequence without group is read, whatever follows it
single_upper : (c : ℕ) (f : List ℕ) (b : ℕ) (d z : List ℕ) → IsEnd b → length d ≡ data_count c None f b → (d ≡ [] → is_exit c f b ≡ false)
    → read_on (Single c f) (b ∷ (d ++ z)) ≡ Found (Ungrouped c f b d) Pcl z
single_upper c f b d z is count differs = rw (extends-past f b (omega arith), is_end-from b is) (single_rest c f b _ b d z count differs)

exit-false : (c : ℕ) (f : List ℕ) (e : ℕ) → (escape_byte ∷ c ∷ (f ++ (e ∷ [])) ≡ uel → ⊥) → is_exit c f e ≡ false
unfolding is_exit
exit-false c f e differs = false_from_ne_true _ (λ t. differs ((bytes_eq-Decides _ _).0 t))

single_reads : (u : List ℕ) (c : ℕ) (f : List ℕ) (e : ℕ) (d z : List ℕ) → IsUngrouped u c f e d → read_on Start (u ++ z) ≡ Found (Ungrouped c f e d) Pcl z
single_reads u c f e d z is =
    let field : is_value_field f ≡ true = test-from_IsField f is.value_field in
    let no_escape_end = is_escape_end-below c (omega (arith, is.character_class)) in
    let differs : d ≡ [] → is_exit c f e ≡ false = λ empty. exit-false c f e (λ same. is.no_exit (is.spelled ∙ ap (λ tail. escape_byte ∷ c ∷ (f ++ (e ∷ tail))) empty ∙ same)) in
    ap (λ bytes. read_on Start (bytes ++ z)) is.spelled
    ∙ rw (is_escape-from escape_byte refl, no_escape_end, is_character-from c is.character_class)
    (ap (read_on (Single c [])) (append_assoc f (e ∷ d) z)
    ∙ single_field c [] f (e ∷ (d ++ z)) field
    ∙ single_upper c f e d z is.end_class is.count differs)

grouped_reads : (u : List ℕ) (c g : ℕ) (f : List ℕ) (e : ℕ) (d : List ℕ) (next : ParserState) (z : List ℕ)
    → IsGrouped u c g (value_pair f e d) next → read_on Start (u ++ z) ≡ Found (Grouped c g f e d) next z
grouped_reads u c g f e d next z is =
    let no_escape_end = is_escape_end-below c (omega (arith, is.character_class)) in
    ap (λ bytes. read_on Start (bytes ++ z)) is.spelled
    ∙ rw (
      is_escape-from escape_byte refl,
      no_escape_end,
      is_character-from c is.character_class,
      extends-past [] g (omega (arith, is.group_class)),
      is_end-above g (omega (arith, is.group_class)),
      is_earlier_end-from g is.group_class,
    )
    (pair_reads c g is.pair f e d next z is.is_pair)

uel_reads : (z : List ℕ) → read_on Start (uel ++ z) ≡ Found Uel Exit z
unfolding is_escape is_escape_end is_character extends is_end is_exit
uel_reads z = refl

-- the state in which reading begins
abbrev pub start : ParserState → State
start (Open character group) = Pair character group []
start mode = Start

-- Reading finds each whole command, whatever follows it.
pub whole_reads : (m : ParserState) (u : List ℕ) (t : Token) (n : ParserState) (z : List ℕ) → Whole m u t n → read_on (start m) (u ++ z) ≡ Found t n z
whole_reads Pcl u (Escape b) n z w = cc (is_escape-from escape_byte refl, is_escape_end-from b w.0)
whole_reads Pcl u (Grouped c g f e d) n z w = grouped_reads u c g f e d n z w
whole_reads Pcl u (Ungrouped c f e d) n z w = grind (arith, single_reads u c f e d z w.0, w.1)
whole_reads Pcl u (Control b) n z w = cc (is_escape-other b w.0.1, is_control-from b w.0.0)
whole_reads Pcl u (Text b) n z w = grind (arith, is_text-from, is_escape-other, is_control-above)
whole_reads Pcl u Uel n z w = grind (arith, w.0, uel_reads z, w.1)
whole_reads (Open c' g') u (Grouped c g f e d) n z w = cc (pair_reads c' g' u f e d n z w.2)
whole_reads _ u _ n z w = absurd w
