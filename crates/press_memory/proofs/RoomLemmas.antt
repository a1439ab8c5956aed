-- What is handed to a room piece by piece.
use Rattle.std.proofs.Common.{◌≡◌, ◌∙◌, ◌<◌, ◌≤◌, ◌+◌, ◌-◌, ◌⊎◌, ℕ, List, [], ◌∷◌, ◌++◌, length, min, take, drop, Option, Some, ap, sym, refl, inl, inr, arith}
use Rattle.std.proofs.Math.Seq.{take-append-add}
use Rattle.std.proofs.lemmas.Bool.{cases_lt}
use Rattle.std.proofs.lemmas.List.{append-nil, length-append, length-drop, length-take-le, take-append-le, take_all, take_at}
use Rattle.std.proofs.lemmas.Slice.{drop-append-drop, put_mid-paste}
use borrow.Rule.Slice.PartMut.{put_mid}
use Rattle.press_sink.specs.Kept.{output_of}
use Rattle.press_sink.specs.Outputs.{MadeOutput, last_holds}
use Rattle.press_sink.specs.declared.list_outputs.ListedOutput.{ListedOutput}
use Rattle.press_memory.specs.Answers.{HandedTo}
use Rattle.press_memory.specs.Rooms.{outputs_with}
use Rattle.press_memory.specs.declared.answer.RombixelaAnswer.{RombixelaAnswer}

-- how many bytes a room takes that has some, and takes the front of more
least : (a b p : ℕ) → p ≡ min a b → p ≤ a
least a b p is = omega arith

adds : (a b c p n : ℕ) → p ≡ min a b → n ≡ min c (b - p) → p + n ≡ min (a + c) b
adds a b c p n front back = omega arith

fills : (a b c p n : ℕ) → p ≡ min a b → n ≡ min c (b - p) → b < a → n ≡ 0
fills a b c p n front back over = omega arith

all : (a b p : ℕ) → p ≡ min a b → a ≤ b → p ≡ a
all a b p is fits = omega arith

-- a front of bytes and one of more bytes is a front of both: where all of the first stand there, or none of the others
front-more : (written more : List ℕ) (p n : ℕ) → (p ≡ length written) ⊎ ((p ≤ length written) × (n ≡ 0))
    → take p written ++ take n more ≡ take (p + n) (written ++ more)
front-more written more p n h1 = grind (arith, take_all, take-append-add, append-nil, take-append-le)

-- what a room holds in front of a place and behind it, which holds the front of some bytes up to there
front-of : (written before room : List ℕ) (p : ℕ) → p ≤ length written → room ≡ take p written ++ drop p before → take p room ≡ take p written
front-of written before room p some is = ap (λ (l : List ℕ). take p l) is ∙ take_at (take p written) (drop p before) p (length-take-le p written some)

rest-of : (written before room : List ℕ) (p n : ℕ) → p ≤ length written → room ≡ take p written ++ drop p before → drop (p + n) room ≡ drop (p + n) before
rest-of written before room p n some is = grind (arith, drop-append-drop, length-take-le)

length-of : (written before room : List ℕ) (p : ℕ) → p ≡ min (length written) (length before) → room ≡ take p written ++ drop p before
    → length room ≡ length before
length-of written before room p least-is is = grind (arith, length-take-le, length-drop, length-append)

-- more bytes are handed to a room
pub handed-more : (written before more room part : List ℕ) (had : RombixelaAnswer) (n : ℕ) → HandedTo written before room had
    → n ≡ min (length more) (length room - had.put) → part ≡ take n more
    → HandedTo (written ++ more) before (put_mid had.put (had.put + n - had.put) room part)
    (record { fault = had.fault; bytes = had.bytes + length more; put = had.put + n })
handed-more written before more room part had n handed takes is =
    let some = least (length written) (length before) had.put handed.put in
    let long = length-of written before room had.put handed.put handed.room in
    let counts : n ≡ min (length more) (length before - had.put) = takes ∙ ap (λ (k : ℕ). min (length more) (k - had.put)) long in
    let fits : n ≤ length more = omega arith in
    let whole : (had.put ≡ length written) ⊎ ((had.put ≤ length written) × (n ≡ 0)) =
    elim (cases_lt (length before) (length written)) [
      | inl over ↦ inr (some, fills (length written) (length before) (length more) had.put n handed.put counts over)
      | inr room ↦ inl (all (length written) (length before) had.put handed.put room)
    ] in
    record {
      bytes = ap (λ (k : ℕ). k + length more) handed.bytes ∙ sym (length-append written more);
      put = adds (length written) (length before) (length more) had.put n handed.put counts
          ∙ ap (λ (k : ℕ). min k (length before)) (sym (length-append written more));
      room =
          put_mid-paste had.put (had.put + n - had.put) room part (take n more) n is (omega arith) (sym (length-take-le n more fits))
          ∙ ap (λ (l : List ℕ). take had.put room ++ l ++ drop (had.put + n) room) (take_all n (take n more) (omega (arith, length-take-le n more fits)))
          ∙ ap (λ (l : List ℕ). l ++ take n more ++ drop (had.put + n) room) (front-of written before room had.put some handed.room)
          ∙ ap (λ (l : List ℕ). l ++ drop (had.put + n) room) (front-more written more had.put n whole)
          ∙ ap (λ (l : List ℕ). take (had.put + n) (written ++ more) ++ l) (rest-of written before room had.put n some handed.room);
    }

-- the output that was made last holds something
last_holds-append : (bytes : Option (List ℕ)) (settled : List MadeOutput) (one : MadeOutput)
    → last_holds bytes (settled ++ one ∷ []) ≡ settled ++ record one { holds = bytes } ∷ []
last_holds-append bytes [] one = refl
last_holds-append bytes (first ∷ []) one = refl
last_holds-append bytes (first ∷ next ∷ others) one = grind (arith, last_holds-append bytes (next ∷ others) one)

pub held-now : (bytes : Option (List ℕ)) (settled : List MadeOutput) (had : Option ListedOutput) (last : ListedOutput) → had ≡ Some last
    → settled ++ record (output_of last) { holds = bytes } ∷ [] ≡ last_holds bytes (outputs_with settled had)
held-now bytes settled had last is = grind (arith, last_holds-append)
