-- Lines of a text, one piece of it after another.
use Rattle.std.proofs.Common.{◌≡◌, ◌∙◌, ◌<◌, ◌+◌, ℕ, zero, suc, List, [], ◌∷◌, ◌++◌, Bool, true, false, cond, length, take, drop, get_or, Option, Some, None, Ok, Err, refl, sym, ap, arith}
use Rattle.std.specs.Prelude.{◌==◌}
use Rattle.std.specs.Io.KnownBytes.{Consumes}
use Rattle.std.specs.List.{position}
use Rattle.std.proofs.KnownBytes.{Consumes-trans}
use Rattle.std.proofs.Math.Seq.{drop-length}
use Rattle.std.proofs.lemmas.Bool.{eqb-true}
use Rattle.std.proofs.lemmas.List.{append_assoc, append-nil, take_more, take-append-drop}
use Rattle.std.proofs.lemmas.List.Quantifiers.{position-Some}
use Rattle.std.proofs.lemmas.List.Sums.{fails_before_first}
use Rattle.press_asm.specs.Text.{is_feed, lines_of}
use Rattle.press_files.specs.declared.inputs.InputError.{InputError}
use Rattle.press_files.specs.declared.inputs.InputError.TheVariants.{ReadFault, NoMemory}
use Rattle.press_files.specs.LineReading.{TakesLine, Refills, GivesLine, ReadsNoMore}
use Rattle.press_words.specs.Lines.{HasNoFeed}

-- a line with its line feed, and what stands behind it
pub lines_of-feed : (line rest : List ℕ) → HasNoFeed line → lines_of (line ++ 10 ∷ rest) ≡ line ∷ lines_of rest
lines_of-feed [] rest none = refl
lines_of-feed (byte ∷ line) rest none = grind (arith, lines_of-feed line rest none.1)

-- a line without one
pub lines_of-last : (byte : ℕ) (line : List ℕ) → HasNoFeed (byte ∷ line) → lines_of (byte ∷ line) ≡ (byte ∷ line) ∷ []
lines_of-last byte [] none = ap (λ (t : Bool). cond t ([] ∷ []) ((byte ∷ []) ∷ [])) none.0
lines_of-last byte (next ∷ line) none = grind (arith, lines_of-last next line none.1)

pub HasNoFeed-append : (first second : List ℕ) → HasNoFeed first → HasNoFeed second → HasNoFeed (first ++ second)
HasNoFeed-append [] second none other = other
HasNoFeed-append (byte ∷ first) second none other = (none.0, HasNoFeed-append first second none.1 other)

HasNoFeed-take : (bytes : List ℕ) (i : ℕ) → ((k : ℕ) → k < i → is_feed (get_or bytes k 0) ≡ false) → HasNoFeed (take i bytes)
HasNoFeed-take bytes zero none = tt
HasNoFeed-take [] (suc i) none = tt
HasNoFeed-take (byte ∷ bytes) (suc i) none = (none 0 (omega arith), HasNoFeed-take bytes i (λ k before. none (suc k) (omega (arith, before))))

HasNoFeed-all : (bytes : List ℕ) → ((k : ℕ) → k < length bytes → is_feed (get_or bytes k 0) ≡ false) → HasNoFeed bytes
HasNoFeed-all [] none = tt
HasNoFeed-all (byte ∷ bytes) none = (none 0 (omega arith), HasNoFeed-all bytes (λ k before. none (suc k) (omega (arith, before))))

-- up to the first line feed
pub takes-line : (held ahead old new left : List ℕ) (place : ℕ) → ahead ≡ held → position is_feed ahead ≡ Some place
    → new ≡ old ++ take place ahead → left ≡ drop (place + 1) held → TakesLine true held left old new
takes-line held ahead old new left place is first adds leaves =
    let there = position-Some is_feed ahead place 0 first in
    let feed : get_or ahead place 0 ≡ 10 = eqb-true _ _ there.1 in (
      take place ahead,
      HasNoFeed-take ahead place there.2,
      sym is ∙ sym (take-append-drop (place + 1) ahead) ∙ ap (λ (prefix : List ℕ). prefix ++ drop (place + 1) ahead) (take_more ahead place 0 there.0)
          ∙ append_assoc (take place ahead) (get_or ahead place 0 ∷ []) (drop (place + 1) ahead)
          ∙ ap (λ (byte : ℕ). take place ahead ++ byte ∷ drop (place + 1) ahead) feed
          ∙ ap (λ (bytes : List ℕ). take place ahead ++ 10 ∷ bytes) (ap (drop (place + 1)) is ∙ sym leaves),
      adds,
    )

-- where there is none
pub takes-all : (held ahead old new left : List ℕ) → ahead ≡ held → position is_feed ahead ≡ None → new ≡ old ++ ahead → left ≡ [] → TakesLine false held left old new
takes-all held ahead old new left is none adds leaves = grind (arith, HasNoFeed-all, fails_before_first)

pub drop-whole : (bytes : List ℕ) (n : ℕ) → n ≡ length bytes → drop n bytes ≡ []
drop-whole bytes n is = ap (λ (k : ℕ). drop k bytes) is ∙ drop-length bytes

-- what was held and read is the line so far, and what is held
pub record IsGathered (old : List ℕ) (had left : Option (List ℕ)) (line held : List ℕ) : Type 0 where
  pub read : List ℕ
  pub lost : Consumes had left read
  pub none : HasNoFeed line
  pub is : old ++ read ≡ line ++ held

-- all that was held is part of the line
gathered : (old held left line new : List ℕ) (read : List ℕ) → HasNoFeed line → old ++ read ≡ line ++ held → TakesLine false held left line new → HasNoFeed new × (old ++ read ≡ new)
gathered old held left line new read none is taken = grind (arith, HasNoFeed-append)

-- with the next piece
pub gathers-more : (old : List ℕ) (had middle rest : Option (List ℕ)) (line held left new piece : List ℕ) (ended more : Bool)
    → ended ≡ false → more ≡ true → IsGathered old had middle line held → TakesLine ended held left line new
    → Refills (Ok more) piece middle rest → IsGathered old had rest new piece
gathers-more old had middle rest line held left new piece false true lacks goes so_far taken refilled =
    let all = gathered old held left line new so_far.read so_far.none so_far.is taken in
    record {
      read = so_far.read ++ piece;
      lost = Consumes-trans had middle rest so_far.read piece so_far.lost refilled;
      none = all.0;
      is = sym (append_assoc old so_far.read piece) ∙ ap (λ (bytes : List ℕ). bytes ++ piece) all.1;
    }
gathers-more old had middle rest line held left new piece true more lacks goes so_far taken refilled = absurd cc
gathers-more old had middle rest line held left new piece false false lacks goes so_far taken refilled = absurd cc

-- at the end
pub gives-last : (old : List ℕ) (had middle rest : Option (List ℕ)) (line held left new piece holds : List ℕ) (ended more : Bool)
    → ended ≡ false → more ≡ false → IsGathered old had middle line held → TakesLine ended held left line new
    → Refills (Ok more) piece middle rest → GivesLine (Ok false) old holds had rest new
gives-last old had middle rest line held left new piece holds false false lacks last so_far taken refilled =
    let all = gathered old held left line new so_far.read so_far.none so_far.is taken in
    (so_far.read ++ [], Consumes-trans had middle rest so_far.read [] so_far.lost refilled.0, all.0, sym (append_assoc old so_far.read []) ∙ append-nil (old ++ so_far.read) ∙ all.1, refilled.2)
gives-last old had middle rest line held left new piece holds true more lacks last so_far taken refilled = absurd cc
gives-last old had middle rest line held left new piece holds false true lacks last so_far taken refilled = absurd cc

-- where no piece was read
pub gives-none : (error : InputError) (old : List ℕ) (had middle rest : Option (List ℕ)) (line held left new piece holds : List ℕ)
    (ended : Bool)
    → ended ≡ false → IsGathered old had middle line held → TakesLine ended held left line new → Refills (Err error) piece middle rest
    → GivesLine (Err error) old holds had rest new
gives-none ReadFault old had middle rest line held left new piece holds false lacks so_far taken refilled =
    let all = gathered old held left line new so_far.read so_far.none so_far.is taken in
    (so_far.read ++ [], Consumes-trans had middle rest so_far.read [] so_far.lost refilled, all.0, sym (append_assoc old so_far.read []) ∙ append-nil (old ++ so_far.read) ∙ all.1)
gives-none NoMemory old had middle rest line held left new piece holds false lacks so_far taken refilled =
    (so_far.read ++ refilled.0, Consumes-trans had middle rest so_far.read refilled.0 so_far.lost refilled.1)
gives-none error old had middle rest line held left new piece holds true lacks so_far taken refilled = absurd cc

-- up to a line feed
pub gives-line : (old : List ℕ) (had rest : Option (List ℕ)) (line held left new : List ℕ) (ended : Bool) → ended ≡ true
    → IsGathered old had rest line held → TakesLine ended held left line new → GivesLine (Ok true) old left had rest new
gives-line old had rest line held left new ended goes so_far taken = grind (arith, HasNoFeed-append, append_assoc)

-- nothing is held where no line feed stood there
pub leaves-none : (held left old new : List ℕ) (ended : Bool) → ended ≡ false → TakesLine ended held left old new → length left ≡ 0
leaves-none held left old new ended lacks taken = grind arith

-- the next line, of what was held and read
pub next-line : (line rest : List ℕ) (lines : List (List ℕ)) (all : List ℕ) → HasNoFeed line → all ≡ line ++ 10 ∷ rest → lines ++ lines_of all ≡ (lines ++ line ∷ []) ++ lines_of rest
next-line line rest lines all none is = grind (arith, lines_of-feed, append_assoc)

-- no line was read
pub reads-no-more : (error : InputError) (held holds : List ℕ) (left rest : Option (List ℕ)) (line : List ℕ) (text : List ℕ)
    (lines : List (List ℕ))
    → ((more : List ℕ) → lines_of (text ++ more) ≡ lines ++ lines_of (held ++ more)) → GivesLine (Err error) held holds left rest line
    → (read : List ℕ) × Consumes left rest read × ReadsNoMore error (text ++ read) lines
reads-no-more error held holds left rest line text lines cut given = grind arith

-- the lines of a text without a line feed
pub no-lines : (line : List ℕ) → (length line == 0) ≡ true → lines_of line ≡ []
no-lines [] none = refl
no-lines (byte ∷ line) none = let zero = eqb-true (length (byte ∷ line)) 0 none in absurd (omega (arith, zero))

pub one-line : (line : List ℕ) → HasNoFeed line → (length line == 0) ≡ false → lines_of line ≡ line ∷ []
one-line [] plain some_ = absurd cc
one-line (byte ∷ line) plain some_ = lines_of-last byte line plain
