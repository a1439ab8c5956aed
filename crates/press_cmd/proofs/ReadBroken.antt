-- What reading gives is a whole command or a broken one, and it gives each broken one.
use Rattle.std.proofs.Common.{◌≡◌, ◌<◌, ◌+◌, ◌∙◌, ◌⊎◌, ℕ, suc, List, [], ◌∷◌, ◌++◌, length, true, refl, sym, ap, subst, inl, inr, arith, append_assoc, length-append, replicate}
use Rattle.std.proofs.lemmas.List.{append-nil, length-replicate}
use Rattle.press_cmd.specs.Token.{Token, Escape, Grouped, Ungrouped, escape_byte}
use Rattle.press_cmd.specs.ParserState.{ParserState, Pcl, Open}
use Rattle.press_units.specs.Field.{is_value_field}
use Rattle.press_cmd.specs.Grammar.{Whole, GoesOn, Breaks, IsCharacter}
use Rattle.press_cmd.proofs.Reading.{State, Start, Escaped, Single, Pair, SingleData, PairData, Step, Goes, Gives, Stops, Nothing, Found, step, after_step, read_on}
use Rattle.press_units.proofs.FieldTest.{IsField-from_test}
use Rattle.press_cmd.proofs.ReadWhole.{start, whole_reads}
use Rattle.press_cmd.proofs.ReadStep.{Wraps, PairDataRead, SingleDataRead, Reached, broken_in, EndsOpen, Sound, step_sound, no_exit-data, whole-pair}

-- ---- what has been read goes on to a whole command

last_of : (f : List ℕ) (a : ℕ) (g : List ℕ) (b : ℕ) → f ++ (a ∷ []) ≡ g ++ (b ∷ []) → a ≡ b
last_of [] a [] b h = cc
last_of [] a (y ∷ []) b h = cc
last_of [] a (y ∷ z ∷ g) b h = cc
last_of (x ∷ []) a [] b h = cc
last_of (x ∷ z ∷ f) a [] b h = cc
last_of (x ∷ f) a (y ∷ g) b h = let tails : f ++ (a ∷ []) ≡ g ++ (b ∷ []) = cc in last_of f a g b tails

goes-single : (u : List ℕ) (c : ℕ) (f : List ℕ) → IsCharacter c → is_value_field f ≡ true → u ≡ escape_byte ∷ c ∷ f → GoesOn Pcl u
goes-single u c f is field r =
    let all : u ++ (64 ∷ []) ≡ escape_byte ∷ c ∷ (f ++ (64 ∷ [])) = ap (λ w. w ++ (64 ∷ [])) r in (
      64,
      [],
      Ungrouped c f 64 [],
      Pcl,
      (
        record {
          spelled = all;
          character_class = is;
          value_field = IsField-from_test f field;
          end_class = (omega arith, omega arith);
          count = sym (grind arith);
          no_exit = λ exit. absurd (omega (arith, last_of (escape_byte ∷ c ∷ f) 64 (escape_byte ∷ 37 ∷ 45 ∷ 49 ∷ 50 ∷ 51 ∷ 52 ∷ 53 ∷ []) 88 (sym all ∙ exit)));
        },
        refl,
      ),
    )

goes-pair : (m : ParserState) (u : List ℕ) (c g : ℕ) (f : List ℕ) → is_value_field f ≡ true → Wraps m c g u f → GoesOn m u
goes-pair m u c g f field wraps = (
  64,
  [],
  Grouped c g f 64 [],
  Pcl,
  whole-pair m c g (u ++ (64 ∷ [])) (f ++ (64 ∷ [])) f 64 [] Pcl (grind arith)
      (record { byte = 64; spelled = refl; value_field = IsField-from_test f field; ends = inl ((omega arith, omega arith), refl, refl); count = sym (grind arith) }),
)

goes-single_data : (u : List ℕ) (c : ℕ) (f : List ℕ) (e n : ℕ) (d : List ℕ) → SingleDataRead u c f e n d → GoesOn Pcl u
goes-single_data u c f e n d r =
    let more : List ℕ = 0 ∷ replicate n 0 in
    let all : u ++ more ≡ escape_byte ∷ c ∷ (f ++ (e ∷ (d ++ more))) = ap (λ w. w ++ more) r.spelled ∙ ap (λ w. escape_byte ∷ c ∷ w) (append_assoc f (e ∷ d) more) in
    let size : length (d ++ more) ≡ length d + suc n = length-append d more ∙ ap (λ k. length d + suc k) (length-replicate n 0) in (
      0,
      replicate n 0,
      Ungrouped c f e (d ++ more),
      Pcl,
      (
        record {
          spelled = all;
          character_class = r.character_class;
          value_field = IsField-from_test f r.field;
          end_class = r.end_class;
          count = size ∙ r.count;
          no_exit = no_exit-data (u ++ more) c f e (d ++ more) n all (omega (arith, r.count));
        },
        refl,
      ),
    )

goes-pair_data : (m : ParserState) (u : List ℕ) (c g : ℕ) (f : List ℕ) (e : ℕ) (next : ParserState) (n : ℕ) (d : List ℕ) → PairDataRead m u c g f e next n d → GoesOn m u
goes-pair_data m u c g f e next n d r =
    let more : List ℕ = 0 ∷ replicate n 0 in
    let size : length (d ++ more) ≡ length d + suc n = length-append d more ∙ ap (λ k. length d + suc k) (length-replicate n 0) in (
      0,
      replicate n 0,
      Grouped c g f e (d ++ more),
      next,
      whole-pair m c g (u ++ more) (f ++ (r.byte ∷ (d ++ more))) f e (d ++ more) next (grind (arith, append_assoc))
          (record { byte = r.byte; spelled = refl; value_field = IsField-from_test f r.field; ends = r.ends; count = size ∙ r.count }),
    )

-- What has been read, but nothing, goes on to a whole command.
pub reached-GoesOn : (s : State) (m : ParserState) (u : List ℕ) → Reached s m u → (u ≡ [] → ⊥) → GoesOn m u
reached-GoesOn Start Pcl u r some_ = absurd (some_ r)
reached-GoesOn Escaped Pcl u r some_ = (64, [], Escape 64, Pcl, ((omega arith, omega arith), ap (λ w. w ++ (64 ∷ [])) r, refl))
reached-GoesOn (Single c f) Pcl u r some_ = goes-single u c f r.0 r.1 r.2
reached-GoesOn (SingleData c f e n d) Pcl u r some_ = goes-single_data u c f e n d r
reached-GoesOn (Pair c g f) m u r some_ = goes-pair m u c g f r.0 r.1
reached-GoesOn (PairData c g f e next n d) m u r some_ = goes-pair_data m u c g f e next n d r
reached-GoesOn _ _ u r some_ = absurd r

-- ---- a walk over bytes that give no command yet

-- after these bytes the state is this one
pub record Walked (m : ParserState) (u : List ℕ) (s : State) : Type 0 where
  pub reached : Reached s m u
  pub leads : (z : List ℕ) → read_on (start m) (u ++ z) ≡ read_on s z

walked-more : (m : ParserState) (u : List ℕ) (s : State) (b : ℕ) (further : State) → Walked m u s → step s b ≡ Goes further → Walked m (u ++ (b ∷ [])) further
walked-more m u s b further w e = grind (arith, append_assoc, step_sound)

record SomeWalk (m : ParserState) (u : List ℕ) : Type 0 where
  state : State
  walked : Walked m u state

walk-at : (m : ParserState) (u0 : List ℕ) (s : State) (b : ℕ) (u y : List ℕ) (t : Token) (n : ParserState) (left : List ℕ) (o : Step) → Walked m u0 s → step s b ≡ o
    → after_step o b (u ++ y) (λ k. read_on k (u ++ y)) ≡ Found t n left → length left < length y
    → ((further : State) → Walked m (u0 ++ (b ∷ [])) further → read_on further (u ++ y) ≡ Found t n left → SomeWalk m ((u0 ++ (b ∷ [])) ++ u))
    → SomeWalk m (u0 ++ (b ∷ u))
walk-at m u0 s b u y t n left o w e h short ih = grind (arith, walked-more, append_assoc, length-append)

walk : (m : ParserState) (u0 : List ℕ) (s : State) (u y : List ℕ) (t : Token) (n : ParserState) (left : List ℕ) → Walked m u0 s
    → read_on s (u ++ y) ≡ Found t n left → length left < length y → SomeWalk m (u0 ++ u)
walk m u0 s [] y t n left w h short = record { state = s; walked = subst (λ (x : List ℕ). Walked m x s) (sym (append-nil u0)) w }
walk m u0 s (b ∷ u) y t n left w h short =
    walk-at m u0 s b u y t n left (step s b) w refl h short (λ further walked found. walk m (u0 ++ (b ∷ [])) further u y t n left walked found short)

-- a mode of PCL
abbrev pub OfPcl : ParserState → Type 0
OfPcl Pcl = Unit {0}
OfPcl (Open c g) = Unit {0}
OfPcl _ = ⊥

-- ---- a sequence that breaks

longer : (x : List ℕ) (y : ℕ) → x ++ (y ∷ []) ≡ [] → ⊥
longer [] y h = cc
longer (z ∷ x) y h = cc

breaks-at : (m : ParserState) (u : List ℕ) (s : State) (b : ℕ) (later : List ℕ) (o : Step) → (u ≡ [] → ⊥) → Walked m u s → step s b ≡ o → Sound m u b o
    → ((more : List ℕ) (t : Token) (n : ParserState) → Whole m (u ++ (b ∷ more)) t n → ⊥)
    → after_step o b later (λ k. read_on k later) ≡ Found (broken_in m u) Pcl (b ∷ later)
breaks-at m u s b later o some_ w e sound cannot = grind (arith, reached-GoesOn, append_assoc)

-- Reading finds each sequence that breaks.
pub breaks_reads : (m : ParserState) → OfPcl m → (u v : List ℕ) → Breaks m u v → read_on (start m) (u ++ v) ≡ Found (broken_in m u) Pcl v
breaks_reads m is u v k =
    let w = k.could in
    let found : read_on (start m) (u ++ (w.0 ∷ w.1)) ≡ Found w.2 w.3 [] =
    ap (read_on (start m)) (sym (append-nil (u ++ (w.0 ∷ w.1)))) ∙ whole_reads m (u ++ (w.0 ∷ w.1)) w.2 w.3 [] w.4 in
    let some_walk = walk m [] (start m) u (w.0 ∷ w.1) w.2 w.3 [] (grind arith) found (omega arith) in
    ap (λ x. read_on (start m) (u ++ x)) k.next_byte
    ∙ some_walk.walked.leads (k.byte ∷ k.later)
    ∙ breaks-at m u some_walk.state k.byte k.later (step some_walk.state k.byte) k.stands some_walk.walked refl (step_sound some_walk.state m u k.byte some_walk.walked.reached) k.cannot
    ∙ ap (Found (broken_in m u) Pcl) (sym k.next_byte)

-- ---- what reading gives

-- these bytes, followed by those, are the command, whole or broken
pub record Gave (m : ParserState) (u : List ℕ) (x : List ℕ) (t : Token) (n : ParserState) (left : List ℕ) : Type 0 where
  pub used : List ℕ
  pub cut : x ≡ used ++ left
  pub what : Whole m (u ++ used) t n ⊎ ((t ≡ broken_in m (u ++ used)) × (n ≡ Pcl) × Breaks m (u ++ used) left)

stops-Breaks : (m : ParserState) (u : List ℕ) (s : State) (b : ℕ) (later : List ℕ) (t : Token) → (u ≡ [] → ⊥) → Walked m u s → step s b ≡ Stops t → Breaks m u (b ∷ later)
stops-Breaks m u s b later t some_ w e =
    record {
      byte = b;
      later = later;
      stands = some_;
      next_byte = refl;
      could = reached-GoesOn s m u w.reached some_;
      cannot = λ more command next whole.
          let read : read_on (start m) (u ++ (b ∷ more)) ≡ Found command next [] = grind (arith, append-nil (u ++ (b ∷ more)), whole_reads m (u ++ (b ∷ more)) command next [] whole) in
          let other : read_on (start m) (u ++ (b ∷ more)) ≡ Found t Pcl (b ∷ more) = w.leads (b ∷ more) ∙ ap (λ o. after_step o b more (λ k. read_on k more)) e in
          cc (sym read ∙ other);
    }

gave-at : (m : ParserState) (u : List ℕ) (s : State) (b : ℕ) (x : List ℕ) (t : Token) (n : ParserState) (left : List ℕ) (o : Step) → Walked m u s → step s b ≡ o → Sound m u b o
    → (u ≡ [] → EndsOpen m b → ⊥)
    → after_step o b x (λ k. read_on k x) ≡ Found t n left
    → ((further : State) → Walked m (u ++ (b ∷ [])) further → read_on further x ≡ Found t n left → Gave m (u ++ (b ∷ [])) x t n left)
    → Gave m u (b ∷ x) t n left
gave-at m u s b x t n left (Goes further) w e sound live h ih = grind (arith, append_assoc)
gave-at m u s b x t n left (Gives c k) w e sound live h ih = grind arith
gave-at m u s b x t n left (Stops c) w e sound live h ih =
    let command : c ≡ t = cc in
    let mode : Pcl ≡ n = cc in
    let rest : b ∷ x ≡ left = cc in
    let some_ : u ≡ [] → ⊥ = λ empty. live empty (sound.1 empty) in
    let same : u ≡ u ++ [] = sym (append-nil u) in
    let breaks : Breaks m u left = subst (λ (y : List ℕ). Breaks m u y) rest (stops-Breaks m u s b x c some_ w e) in
    record { used = []; cut = rest; what = inr (sym command ∙ sound.0 ∙ ap (broken_in m) same, sym mode, subst (λ (y : List ℕ). Breaks m y left) same breaks) }
gave-at m u s b x t n left Nothing w e sound live h ih = cc

pub gave : (m : ParserState) (u : List ℕ) (s : State) (x : List ℕ) (t : Token) (n : ParserState) (left : List ℕ) → Walked m u s
    → (u ≡ [] → (b : ℕ) (y : List ℕ) → x ≡ b ∷ y → EndsOpen m b → ⊥)
    → read_on s x ≡ Found t n left → Gave m u x t n left
gave m u s [] t n left w live h = cc
gave m u s (b ∷ x) t n left w live h =
    gave-at m u s b x t n left (step s b) w refl (step_sound s m u b w.reached) (λ empty. live empty b x refl) h
    (λ further walked found. gave m (u ++ (b ∷ [])) further x t n left walked (λ empty. absurd (longer u b empty)) found)
