-- A text, assembled line by line.
use Rattle.std.proofs.Common.{◌≡◌, ◌<◌, ◌+◌, ℕ, List, [], ◌∷◌, ◌++◌, Bool, cond, not, length, take, drop}
use Rattle.std.proofs.Common.{refl, sym, inl, inr, arith, append_assoc, append-nil, length-append, length-drop}
use Rattle.std.specs.Prelude.{◌⊎◌}
use Rattle.std.specs.List.{before_first, after_first, position_or_len}
use Rattle.press_cmd.specs.Token.{Token, bytes_of}
use Rattle.press_asm.specs.Form.{IsBadLine, IsBadValue, IsBadData}
use Rattle.press_asm.specs.Text.{is_feed, in_front, lines_of, all_bytes, LinesGive, IsFirst, Refuses}
use Rattle.press_asm.specs.Judged.{HasLineFault, LineAdds, error_at}
use Rattle.press_asm.specs.declared.fault.LineFault.{LineFault}
use Rattle.press_asm.specs.declared.fault.LineFault.TheVariants.{Line, Value, Data, NoMemory}

-- ---- the first line

-- the line in front, and the lines behind it
first_line-at : (b : ℕ) (x : List ℕ) (t : Bool) → is_feed b ≡ t → (x ≡ [] → ⊥) ⊎ (x ≡ [])
    → ((x ≡ [] → ⊥) → lines_of x ≡ before_first is_feed x ∷ lines_of (after_first is_feed x))
    → cond t ([] ∷ lines_of x) (in_front b (lines_of x))
    ≡ take (cond (not t) (1 + position_or_len is_feed x) 0) (b ∷ x) ∷ lines_of (drop (cond (not t) (1 + position_or_len is_feed x) 0 + 1) (b ∷ x))
first_line-at b x t e cases ih = grind arith

some_or_none : (x : List ℕ) → (x ≡ [] → ⊥) ⊎ (x ≡ [])
some_or_none [] = inr refl
some_or_none (b ∷ x) = inl (λ e. cc)

first_line : (x : List ℕ) → (x ≡ [] → ⊥) → lines_of x ≡ before_first is_feed x ∷ lines_of (after_first is_feed x)
first_line [] some_ = absurd (some_ refl)
first_line (b ∷ x) some_ = first_line-at b x (is_feed b) refl (some_or_none x) (λ s. first_line x s)

-- what stands after the first line is shorter
pub after_shorter : (x : List ℕ) → 0 < length x → length (after_first is_feed x) < length x
after_shorter x h = let e = length-drop (position_or_len is_feed x + 1) x in omega (arith, e)

-- ---- lines that give commands

bytes-append : (cs ds : List Token) → all_bytes (cs ++ ds) ≡ all_bytes cs ++ all_bytes ds
bytes-append [] ds = refl
bytes-append (c ∷ cs) ds = grind (arith, bytes-append cs ds, append_assoc (bytes_of c) (all_bytes cs) (all_bytes ds))

give-append : (ls ms : List (List ℕ)) (cs ds : List Token) → LinesGive ls cs → LinesGive ms ds → LinesGive (ls ++ ms) (cs ++ ds)
give-append [] ms cs ds h k = grind arith
give-append (l ∷ ls) ms cs ds h k = grind (arith, give-append ls ms h.2 ds h.6 k)

-- so many lines of the text are assembled, and the rest is to come
pub record IsSoFar (text rest out : List ℕ) (number : ℕ) : Type 0 where
  pub before : List (List ℕ)
  pub commands : List Token
  pub cut : lines_of text ≡ before ++ lines_of rest
  pub give : LinesGive before commands
  pub count : number ≡ length before
  pub spelled : out ≡ all_bytes commands

pub begun : (text out : List ℕ) → out ≡ [] → IsSoFar text text out 0
begun text out none = record { before = []; commands = []; cut = refl; give = refl; count = refl; spelled = none }

pub one_more : (text rest out new : List ℕ) (number : ℕ) (line after : List ℕ) → 0 < length rest → line ≡ before_first is_feed rest → after ≡ after_first is_feed rest
    → IsSoFar text rest out number → LineAdds line out new → IsSoFar text after new (number + 1)
one_more text rest out new number line after some_ prefix back s added = record {
  before = s.before ++ (line ∷ []);
  commands = s.commands ++ added.2.0;
  cut = grind (arith, first_line, append_assoc s.before (line ∷ []) (lines_of after));
  give = give-append s.before (line ∷ []) s.commands added.2.0 s.give (added.0, added.2.0, [], added.1, added.2.1, sym (append-nil added.2.0), refl);
  count = let e = length-append s.before (line ∷ []) in omega (arith, e, s.count);
  spelled = grind (arith, added.2.2, s.spelled, bytes-append s.commands added.2.0);
}

first_fault : (text rest out : List ℕ) (number : ℕ) (line after : List ℕ) (P : List ℕ → Type 0) → 0 < length rest → line ≡ before_first is_feed rest → after ≡ after_first is_feed rest
    → IsSoFar text rest out number → P line → IsFirst text (number + 1) P
first_fault text rest out number line after P some_ prefix back s fault = record {
  before = s.before;
  line = line;
  after = lines_of after;
  commands = s.commands;
  cut = grind (arith, first_line);
  give = s.give;
  count = omega (arith, s.count);
  fault = fault;
}

pub refused : (text rest out : List ℕ) (number : ℕ) (line after : List ℕ) (fault : LineFault) → 0 < length rest → line ≡ before_first is_feed rest → after ≡ after_first is_feed rest
    → IsSoFar text rest out number → HasLineFault line fault → Refuses text (error_at fault (number + 1))
refused text rest out number line after Line some_ prefix back s h = first_fault text rest out number line after IsBadLine some_ prefix back s h
refused text rest out number line after Value some_ prefix back s h = first_fault text rest out number line after IsBadValue some_ prefix back s h
refused text rest out number line after Data some_ prefix back s h = first_fault text rest out number line after IsBadData some_ prefix back s h
refused text rest out number line after NoMemory some_ prefix back s h = tt
