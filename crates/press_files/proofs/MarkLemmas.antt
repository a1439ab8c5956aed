-- How often a mark of two bytes stands in a text.
use Rattle.std.proofs.Common.{◌≡◌, ◌∙◌, ℕ, ◌<◌, ◌≤◌, suc, List, [], ◌∷◌, ◌++◌, length, drop, take, refl, sym, ap, subst, arith, append_assoc, take-append-drop, length-append, Some, None}
use Rattle.std.proofs.Math.Seq.{drop-append_seam}
use Rattle.std.specs.Str.Pattern.{FindsText, HasTextAt, LacksTextAt}
use Rattle.press_sink.specs.Template.{NameParts}
use Rattle.press_files.specs.EntryTemplate.{SpellsRound, StandsNowhere, StandsOnce}

abbrev pub parted : (front back : List ℕ) → NameParts
parted front back = record { front = front; back = back }

-- marks whose second byte is not their first
module _ (first second : ℕ) (differ : second ≡ first → ⊥) where
  abbrev mark : List ℕ
  mark = first ∷ second ∷ []

  -- where nothing is found, no parts spell the text
  pub finds_nowhere : (text : List ℕ) → FindsText mark text None → StandsNowhere mark text
  finds_nowhere text none parts e =
      let short : length parts.front ≤ length text
      = subst (λ (l : List ℕ). length parts.front ≤ length l) (sym e) (omega (arith, length-append parts.front (mark ++ parts.back))) in
      none (length parts.front) short parts.back (ap (drop (length parts.front)) e ∙ drop-append_seam parts.front (mark ++ parts.back))

  -- Where the mark stands first behind one front, and not again in the back, every spelling is that one.
  one_spelling : (front back other rest : List ℕ) → ((k : ℕ) → k < length front → LacksTextAt mark (front ++ (mark ++ back)) k)
      → ((o r : List ℕ) → back ≡ o ++ (mark ++ r) → ⊥) → front ++ (mark ++ back) ≡ other ++ (mark ++ rest)
      → (other ≡ front) × (rest ≡ back)
  one_spelling [] back [] rest before behind e = (refl, cc)
  one_spelling [] back (x ∷ []) rest before behind e = absurd (differ (cc))
  one_spelling [] back (x ∷ y ∷ other) rest before behind e = absurd (behind other rest (cc))
  one_spelling (x ∷ front) back [] rest before behind e = absurd (before 0 (omega arith) rest e)
  one_spelling (x ∷ front) back (y ∷ other) rest before behind e =
      grind (arith, one_spelling front back other rest (λ k h r. before (suc k) (omega arith) r) behind (cc))

  -- what stands where the mark was found
  pub found_spells : (text : List ℕ) (i j : ℕ) → HasTextAt mark text i j → SpellsRound mark text (parted (take i text) (drop j text))
  found_spells text i j h = sym (take-append-drop i text) ∙ ap (λ l. take i text ++ l) h.split

  -- the front and the back of the first place, where no other stands in the back
  pub stands_once : (text front back : List ℕ) (i j : ℕ) → FindsText mark text (Some (i, j)) → front ≡ take i text → back ≡ drop j text
      → length front ≡ i → FindsText mark back None → StandsOnce mark text (parted front back)
  stands_once text front back i j found f b at none =
      let spells : text ≡ front ++ (mark ++ back)
      = found_spells text i j found.1 ∙ ap (λ l. l ++ (mark ++ drop j text)) (sym f) ∙ ap (λ l. front ++ (mark ++ l)) (sym b) in
      let before : (k : ℕ) → k < length front → LacksTextAt mark (front ++ (mark ++ back)) k
      = λ k h rest e. found.0 k (omega arith) rest (ap (drop k) spells ∙ e) in
      record {
        spells = spells;
        once = λ others e.
            let same = one_spelling front back others.front others.back before (λ o r is. finds_nowhere back none (parted o r) is) (sym spells ∙ e) in
            parts_same others.front front others.back back same.0 same.1;
      }
    where
      parts_same : (f g b d : List ℕ) → f ≡ g → b ≡ d → ◌≡◌ {A = NameParts} (parted f b) (parted g d)
      parts_same f g b d e h = cc

  -- in a text in which it stands twice the mark does not stand once
  pub stands_twice : (text front back : List ℕ) (i j m n : ℕ) → FindsText mark text (Some (i, j)) → front ≡ take i text → back ≡ drop j text
      → FindsText mark back (Some (m, n)) → (round : NameParts) → StandsOnce mark text round → ⊥
  stands_twice text front back i j m n found f b again round once =
      let spells : text ≡ front ++ (mark ++ back)
      = found_spells text i j found.1 ∙ ap (λ l. l ++ (mark ++ drop j text)) (sym f) ∙ ap (λ l. front ++ (mark ++ l)) (sym b) in
      let long : List ℕ = front ++ (mark ++ take m back) in
      let both : text ≡ long ++ (mark ++ drop n back)
      = spells ∙ ap (λ l. front ++ (mark ++ l)) (found_spells back m n again.1) ∙ sym (append_assoc front (mark ++ take m back) (mark ++ drop n back)) in
      let one : front ≡ round.front = ap (λ (p : NameParts). p.front) (once.once (parted front back) spells) in
      let other : long ≡ round.front = ap (λ (p : NameParts). p.front) (once.once (parted long (drop n back)) both) in
      let same : length long ≡ length front = ap length (other ∙ sym one) in
      absurd (omega (arith, same, length-append front (mark ++ take m back)))
