-- Laws of splits.
use Rattle.std.proofs.Common.{◌≡◌, ◌<◌, ◌≤◌, ◌∙◌, ℕ, zero, suc, List, [], ◌∷◌, ◌++◌, length, refl, sym, ap, subst, arith, append_assoc, length-append}
use Rattle.press_cmd.specs.Token.{Token}
use Rattle.press_cmd.specs.ParserState.{ParserState}
use Rattle.press_cmd.specs.Grammar.{Head}
use Rattle.press_cmd.specs.Split.{Steps, NoHead, SplitFrom, ClosedFrom, closing}
use Rattle.press_cmd.proofs.Reading.{Reading, Short, Found, reading}
use Rattle.press_cmd.proofs.ReadHead.{read_head}
use Rattle.press_cmd.proofs.Heads.{one_head, short-NoHead, head-some, head-more}

-- At most one split.
pub one_split : (m : ParserState) (x : List ℕ) (cs cs' : List Token) (k k' : ParserState) (r r' : List ℕ)
    → SplitFrom m x cs k r → SplitFrom m x cs' k' r' → (cs ≡ cs') × (k ≡ k') × (r ≡ r')
one_split m x [] [] k k' r r' s s' = (refl, sym s.steps.0 ∙ s'.steps.0, sym s.steps.1 ∙ s'.steps.1)
one_split m x [] (c ∷ cs') k k' r r' s s' = grind arith
one_split m x (c ∷ cs) [] k k' r r' s s' = grind arith
one_split m x (c ∷ cs) (c' ∷ cs') k k' r r' s s' =
    let h = s.steps in
    let h' = s'.steps in
    let same = one_head m h.0 h.1 h'.0 h'.1 c c' h.2 h'.2 h.4 h'.4 (sym h.3 ∙ h'.3) in
    let other : Steps h.2 h.1 cs' k' r' =
    subst (λ (y : List ℕ). Steps h.2 y cs' k' r') (sym same.1) (subst (λ (n : ParserState). Steps n h'.1 cs' k' r') (sym same.3) h'.5) in
    let rest = one_split h.2 h.1 cs cs' k k' r r' (record { steps = h.5; short = s.short }) (record { steps = other; short = s'.short }) in
    (cc (same.2, rest.0), rest.1, rest.2)

-- steps stay steps, whatever is put after the bytes
pub steps-more : (m : ParserState) (x y : List ℕ) (cs : List Token) (k : ParserState) (r : List ℕ) → Steps m x cs k r → Steps m (x ++ y) cs k (r ++ y)
steps-more m x y [] k r s = (s.0, ap (λ z. z ++ y) s.1)
steps-more m x y (c ∷ cs) k r s = grind (arith, append_assoc s.0 s.1 y, head-more m s.0 s.1 y c s.2 s.4, steps-more s.2 s.1 y cs k r s.5)

-- steps, and then steps over what they leave
pub steps-then : (m : ParserState) (x : List ℕ) (cs cs' : List Token) (k k' : ParserState) (r r' : List ℕ)
    → Steps m x cs k r → Steps k r cs' k' r' → Steps m x (cs ++ cs') k' r'
steps-then m x [] cs' k k' r r' s s' = grind arith
steps-then m x (c ∷ cs) cs' k k' r r' s s' = (s.0, s.1, s.2, s.3, s.4, steps-then s.2 s.1 cs cs' k k' r r' s.5 s')

-- The cutting law: the split of x then y is the commands of x, then the split, from x's mode, of x's rest followed by y.
pub split-append : (m : ParserState) (x y : List ℕ) (cs cs' : List Token) (k k' : ParserState) (r r' : List ℕ)
    → SplitFrom m x cs k r → SplitFrom k (r ++ y) cs' k' r' → SplitFrom m (x ++ y) (cs ++ cs') k' r'
split-append m x y cs cs' k k' r r' s h2 = search (arith, steps-then, steps-more)

-- ---- closed splits

-- Bytes are closed by one list of commands.
pub closed_once : (from : ParserState) (bytes : List ℕ) (one other : List Token) → ClosedFrom from bytes one → ClosedFrom from bytes other → one ≡ other
closed_once from bytes one other first second = grind (arith, one_split)

-- A command in front of what closes the rest.
pub closed-cons : (from : ParserState) (used left : List ℕ) (command : Token) (next : ParserState) (commands : List Token)
    → Head from used left command next → ClosedFrom next left commands → ClosedFrom from (used ++ left) (command ∷ commands)
closed-cons from used left command next commands head closed =
    (command ∷ closed.0, closed.1, closed.2, record { steps = (used, left, next, refl, head, closed.3.steps); short = closed.3.short }, ap (λ more. command ∷ more) closed.4)

-- ---- each list of bytes has a split

pub record SomeSplit (m : ParserState) (x : List ℕ) : Type 0 where
  pub commands : List Token
  pub mode : ParserState
  pub rest : List ℕ
  pub split : SplitFrom m x commands mode rest

used-length : (u : List ℕ) → (u ≡ [] → ⊥) → 1 ≤ length u
used-length [] h = absurd (h refl)
used-length (b ∷ u) h = omega arith

some_split-at : (m : ParserState) (x : List ℕ) (a : Reading) → reading m x ≡ a
    → ((t : Token) (n : ParserState) (left : List ℕ) → reading m x ≡ Found t n left → length left < length x → SomeSplit n left) → SomeSplit m x
some_split-at m x Short e further = record { commands = []; mode = m; rest = x; split = record { steps = (refl, refl); short = short-NoHead m x e } }
some_split-at m x (Found t n left) e further =
    let h = read_head m x t n left e in
    let used = used-length h.used (head-some m h.used left t n h.head) in
    let s = further t n left e (omega (arith, ap length h.cut, length-append h.used left)) in
    record {
      commands = t ∷ s.commands;
      mode = s.mode;
      rest = s.rest;
      split = record { steps = (h.used, left, n, h.cut, h.head, s.split.steps); short = s.split.short };
    }

some_split-below : (size : ℕ) (m : ParserState) (x : List ℕ) → length x < size → SomeSplit m x
some_split-below zero m x h = absurd (omega arith)
some_split-below (suc size) m x h = some_split-at m x (reading m x) refl (λ t n left e below. some_split-below size n left (omega arith))

-- At least one split, for every list of numbers and every mode.
pub some_split : (m : ParserState) (x : List ℕ) → SomeSplit m x
some_split m x = some_split-below (suc (length x)) m x (omega arith)

-- ---- nothing

-- Nothing closes nothing.
pub closing-nothing : (mode : ParserState) → closing mode [] ≡ []
closing-nothing mode = grind arith

pub no_head_of_nothing : (mode : ParserState) → NoHead mode []
no_head_of_nothing mode [] left command next e head = head-some mode [] left command next head refl
no_head_of_nothing mode (byte ∷ used) left command next e head = absurd (cc)

pub nothing_closed : (mode : ParserState) → ClosedFrom mode [] []
nothing_closed mode = ([], mode, [], record { steps = (refl, refl); short = no_head_of_nothing mode }, sym (closing-nothing mode))
