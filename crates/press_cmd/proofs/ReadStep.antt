-- What has been read in a state, and what one more byte makes of it.
use Rattle.std.proofs.Common.{◌≡◌, ◌≤◌, ◌+◌, ◌-◌, ◌∙◌, ℕ, zero, suc, List, [], ◌∷◌, ◌++◌, length, Bool, true, false, cond}
use Rattle.std.proofs.Common.{Some, None, refl, sym, ap, inl, inr, arith, append_assoc, length-append}
use Rattle.std.proofs.lemmas.Bool.{or_from, true≢false}
use Rattle.std.proofs.lemmas.Slice.Eq.{bytes_eq-Decides}
use Rattle.press_units.specs.Field.{is_value_field, is_field_byte}
use Rattle.std.proofs.lemmas.Grind.{common_steps}
use Rattle.press_cmd.specs.Token.{Token, Grouped, Broken, uel, escape_byte}
use Rattle.press_cmd.specs.ParserState.{ParserState, Pcl, Open}
use Rattle.press_cmd.specs.Carried.{data_count}
use Rattle.press_cmd.specs.Grammar.{Whole, IsPair, Ends, IsEnd, IsGroup, IsCharacter, begins_pair, value_pair}
use Rattle.press_cmd.proofs.Reading.{State, Start, Escaped, Single, Pair, SingleData, PairData, Step, Goes, Gives, Stops}
use Rattle.press_cmd.proofs.Reading.{Nothing, extends, is_end, is_earlier_end}
use Rattle.press_cmd.proofs.Reading.{is_exit, single_with, pair_with, group_or_break, step}
use Rattle.press_units.proofs.FieldTest.{IsField-from_test}
use Rattle.press_cmd.proofs.ByteTests.{is_end-true, is_earlier_end-true, is_escape_end-true, is_character-true, is_text-true, is_escape-true, is_escape-false, is_control-true, extends-true}

-- these bytes are a pair so far, in mode Pcl after the escape character, character and group, in an open sequence by itself
abbrev pub Wraps : ParserState → ℕ → ℕ → List ℕ → List ℕ → Type 0
Wraps Pcl c g u w = IsCharacter c × IsGroup g × (u ≡ escape_byte ∷ c ∷ g ∷ w)
Wraps (Open c' g') c g u w = (c ≡ c') × (g ≡ g') × (u ≡ w)
Wraps _ c g u w = ⊥

-- the facts of the data of a pair that is read
pub record PairDataRead (m : ParserState) (u : List ℕ) (c g : ℕ) (f : List ℕ) (e : ℕ) (next : ParserState) (n : ℕ) (d : List ℕ) : Type 0 where
  pub byte : ℕ
  pub ends : Ends c g byte e next
  pub field : is_value_field f ≡ true
  pub count : length d + suc n ≡ data_count c (Some g) f e
  pub wraps : Wraps m c g u (f ++ (byte ∷ d))

pub record SingleDataRead (u : List ℕ) (c : ℕ) (f : List ℕ) (e : ℕ) (n : ℕ) (d : List ℕ) : Type 0 where
  pub character_class : IsCharacter c
  pub field : is_value_field f ≡ true
  pub end_class : IsEnd e
  pub count : length d + suc n ≡ data_count c None f e
  pub spelled : u ≡ escape_byte ∷ c ∷ (f ++ (e ∷ d))

-- what has been read in the state, in the mode
abbrev pub Reached : State → ParserState → List ℕ → Type 0
Reached Start Pcl u = u ≡ []
Reached Escaped Pcl u = u ≡ escape_byte ∷ []
Reached (Single c f) Pcl u = IsCharacter c × (is_value_field f ≡ true) × (u ≡ escape_byte ∷ c ∷ f)
Reached (SingleData c f e n d) Pcl u = SingleDataRead u c f e n d
Reached (Pair c g f) m u = (is_value_field f ≡ true) × Wraps m c g u f
Reached (PairData c g f e next n d) m u = PairDataRead m u c g f e next n d
Reached _ _ _ = ⊥

-- the broken command of these bytes in the mode
abbrev pub broken_in : ParserState → List ℕ → Token
broken_in (Open c g) u = Broken (escape_byte ∷ c ∷ g ∷ u)
broken_in _ u = Broken u

-- the byte begins no pair of an open sequence
abbrev pub EndsOpen : ParserState → ℕ → Type 0
EndsOpen (Open c g) b = begins_pair b ≡ false
EndsOpen _ b = ⊥

-- what a step says of what has been read with its byte
abbrev pub Sound : ParserState → List ℕ → ℕ → Step → Type 0
Sound m u b (Goes s) = Reached s m (u ++ (b ∷ []))
Sound m u b (Gives t n) = Whole m (u ++ (b ∷ [])) t n
Sound m u b (Stops t) = (t ≡ broken_in m u) × (u ≡ [] → EndsOpen m b)
Sound m u b Nothing = u ≡ []

-- choosing by a test
choose : (m : ParserState) (u : List ℕ) (b : ℕ) (t : Bool) (x y : Step) → (t ≡ true → Sound m u b x) → (t ≡ false → Sound m u b y) → Sound m u b (cond t x y)
choose m u b t x y yes_ no_ = grind arith

step-Start : (u : List ℕ) (b : ℕ) → u ≡ [] → Sound Pcl u b (step Start b)
step-Start u b r = grind (arith, is_text-true, is_escape-true, is_escape-false, is_control-true)

step-Escaped : (u : List ℕ) (b : ℕ) → u ≡ escape_byte ∷ [] → Sound Pcl u b (step Escaped b)
step-Escaped u b r = grind (arith, is_escape_end-true, is_character-true)

pub no_exit-data : (u : List ℕ) (c : ℕ) (f : List ℕ) (e : ℕ) (d : List ℕ) (n : ℕ) → u ≡ escape_byte ∷ c ∷ (f ++ (e ∷ d)) → suc n ≤ data_count c None f e → u ≡ uel → ⊥
no_exit-data u c f e d n spelled count exit = grind arith

is_exit-true : (c : ℕ) (f : List ℕ) (e : ℕ) → is_exit c f e ≡ true → escape_byte ∷ c ∷ (f ++ (e ∷ [])) ≡ uel
unfolding is_exit
is_exit-true c f e h = (bytes_eq-Decides (escape_byte ∷ c ∷ (f ++ (e ∷ []))) uel).0 h

is_exit-false : (c : ℕ) (f : List ℕ) (e : ℕ) → is_exit c f e ≡ false → escape_byte ∷ c ∷ (f ++ (e ∷ [])) ≡ uel → ⊥
unfolding is_exit
is_exit-false c f e h same = true≢false (sym ((bytes_eq-Decides (escape_byte ∷ c ∷ (f ++ (e ∷ []))) uel).1 same) ∙ h)

single-with : (u : List ℕ) (c : ℕ) (f : List ℕ) (b count : ℕ) → IsCharacter c → is_value_field f ≡ true → u ≡ escape_byte ∷ c ∷ f → IsEnd b → count ≡ data_count c None f b
    → Sound Pcl u b (single_with c f b count)
single-with u c f b zero is field r end count = grind (arith, is_exit-true, is_exit-false, IsField-from_test)
single-with u c f b (suc n) is field r end count = grind arith

group-or-break : (u : List ℕ) (c : ℕ) (f : List ℕ) (b : ℕ) (t : Bool) → is_earlier_end b ≡ t → IsCharacter c → u ≡ escape_byte ∷ c ∷ f → Sound Pcl u b (group_or_break c f b t)
group-or-break u c f b t e is r = grind (arith, is_earlier_end-true)

step-Single : (u : List ℕ) (c : ℕ) (f : List ℕ) (b : ℕ) → IsCharacter c → is_value_field f ≡ true → u ≡ escape_byte ∷ c ∷ f → Sound Pcl u b (step (Single c f) b)
step-Single u c f b is field r = grind (arith, single-with, group-or-break, is_end-true, extends-true)

-- a pair that is wrapped and whole is a command
pub whole-pair : (m : ParserState) (c g : ℕ) (u w f : List ℕ) (e : ℕ) (d : List ℕ) (next : ParserState) → Wraps m c g u w → IsPair c g w (value_pair f e d) next → Whole m u (Grouped c g f e d) next
whole-pair m c g u w f e d next h p = grind arith

pair-with : (m : ParserState) (u : List ℕ) (c g : ℕ) (f : List ℕ) (e b : ℕ) (next : ParserState) (count : ℕ) → is_value_field f ≡ true
    → Wraps m c g u f → Ends c g b e next → count ≡ data_count c (Some g) f e
    → Sound m u b (pair_with c g f e next count)
pair-with m u c g f e b next zero field wraps ends count = grind (arith, IsField-from_test)
pair-with m u c g f e b next (suc n) field wraps ends count = grind arith

-- the broken command of a wrapped pair
wraps-broken : (m : ParserState) (c g : ℕ) (u f : List ℕ) (b : ℕ) → Wraps m c g u f → (f ≡ [] → begins_pair b ≡ false) → (Broken (escape_byte ∷ c ∷ g ∷ f) ≡ broken_in m u) × (u ≡ [] → EndsOpen m b)
wraps-broken m c g u f b h other = grind arith

-- at the front of a field each field byte may stand
first_of_field : (b : ℕ) → extends [] b ≡ false → is_field_byte b ≡ false
unfolding extends
first_of_field b h = grind arith

begins_none : (b : ℕ) → is_field_byte b ≡ false → is_end b ≡ false → is_earlier_end b ≡ false → begins_pair b ≡ false
unfolding is_end is_earlier_end
begins_none b field upper lower = or_from (is_field_byte b) _ field (or_from _ _ upper lower)

step-Pair : (m : ParserState) (u : List ℕ) (c g : ℕ) (f : List ℕ) (b : ℕ) → is_value_field f ≡ true → Wraps m c g u f → Sound m u b (step (Pair c g f) b)
step-Pair m u c g f b field wraps =
    choose m u b (extends f b) _ _ (λ e. (extends-true f b e, grind arith))
    (λ other. choose m u b (is_end b) _ _ (λ e. pair-with m u c g f b b Pcl (data_count c (Some g) f b) field wraps (inl (is_end-true b e, refl, refl)) refl)
    (λ none. choose m u b (is_earlier_end b) _ _
    (λ e. let is = is_earlier_end-true b e in pair-with m u c g f (b - 32) b (Open c g) (data_count c (Some g) f (b - 32)) field wraps (inr (is, omega arith, refl)) refl)
    (λ neither. wraps-broken m c g u f b wraps (λ empty. begins_none b (first_of_field b (ap (λ x. extends x b) (sym empty) ∙ other)) none neither))))

step-SingleData : (u : List ℕ) (c : ℕ) (f : List ℕ) (e n : ℕ) (d : List ℕ) (b : ℕ) → SingleDataRead u c f e n d → Sound Pcl u b (step (SingleData c f e n d) b)
step-SingleData u c f e zero d b r = grind (arith, append_assoc, length-append, IsField-from_test)
step-SingleData u c f e (suc n) d b r = grind (arith, append_assoc, length-append)

step-PairData : (m : ParserState) (u : List ℕ) (c g : ℕ) (f : List ℕ) (e : ℕ) (next : ParserState) (n : ℕ) (d : List ℕ) (b : ℕ) → PairDataRead m u c g f e next n d
    → Sound m u b (step (PairData c g f e next n d) b)
step-PairData m u c g f e next zero d b r = grind (arith, common_steps, IsField-from_test)
step-PairData m u c g f e next (suc n) d b r = grind (arith, common_steps)

-- What one more byte makes of what has been read.
pub step_sound : (s : State) (m : ParserState) (u : List ℕ) (b : ℕ) → Reached s m u → Sound m u b (step s b)
step_sound s m u b r = grind (arith, step-Start, step-Escaped, step-Single, step-SingleData, step-Pair, step-PairData)
