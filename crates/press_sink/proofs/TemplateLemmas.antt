-- How often the place of a number stands in a text.
use Rattle.std.proofs.Common.{◌≡◌, ◌∙◌, ℕ, ◌<◌, suc, List, [], ◌∷◌, ◌++◌, length, drop, take, refl, sym, ap, arith, append_assoc, take-append-drop, length-append, Some, None}
use Rattle.std.proofs.Math.Seq.{drop-append_seam}
use Rattle.std.specs.Str.Pattern.{FindsText, HasTextAt, LacksTextAt}
use Rattle.press_sink.specs.Template.{NameParts, IsTemplate, IsNoTemplate}

-- the place of the number
abbrev place : List ℕ
place = 37 ∷ 100 ∷ []

-- where nothing is found, no parts spell the text
pub none_spells : (text : List ℕ) → FindsText place text None → (front back : List ℕ) → text ≡ front ++ (place ++ back) → ⊥
none_spells text none front back e =
    none (length front) (grind (arith, length-append front (place ++ back))) back (ap (drop (length front)) e ∙ drop-append_seam front (place ++ back))

-- Where the place stands first behind one front, and not again in the back, every spelling is that one.
pub one_spelling : (front back other rest : List ℕ) → ((k : ℕ) → k < length front → LacksTextAt place (front ++ (place ++ back)) k)
    → ((o r : List ℕ) → back ≡ o ++ (place ++ r) → ⊥) → front ++ (place ++ back) ≡ other ++ (place ++ rest)
    → (other ≡ front) × (rest ≡ back)
one_spelling [] back [] rest before behind e = (refl, cc)
one_spelling [] back (x ∷ []) rest before behind e = let bad : ◌≡◌ {A = ℕ} 100 37 = cc in absurd (omega arith)
one_spelling [] back (x ∷ y ∷ other) rest before behind e = absurd (behind other rest (cc))
one_spelling (x ∷ front) back [] rest before behind e = absurd (before 0 (omega arith) rest e)
one_spelling (x ∷ front) back (y ∷ other) rest before behind e =
    grind (arith, one_spelling front back other rest (λ k h r. before (suc k) (omega arith) r) behind (cc))

-- what stands where the place was found
found_spells : (text front back : List ℕ) (i j : ℕ) → HasTextAt place text i j → front ≡ take i text → back ≡ drop j text → text ≡ front ++ (place ++ back)
found_spells text front back i j h f b = grind (arith, take-append-drop)

-- the front and the back of the first place, where no other stands in the back
pub first_alone : (text front back : List ℕ) (i j : ℕ) → FindsText place text (Some (i, j)) → front ≡ take i text → back ≡ drop j text
    → length front ≡ i → FindsText place back None → IsTemplate text (record { front = front; back = back })
first_alone text front back i j found f b at none =
    let spells = found_spells text front back i j found.1 f b in
    let before : (k : ℕ) → k < length front → LacksTextAt place (front ++ (place ++ back)) k
    = λ k h rest e. found.0 k (omega arith) rest (ap (drop k) spells ∙ e) in
    record {
      spells = spells;
      once = λ others e.
          let same = one_spelling front back others.front others.back before (none_spells back none) (sym spells ∙ e) in
          parts_same others.front front others.back back same.0 same.1;
    }
  where
    parts_same : (f g b d : List ℕ) → f ≡ g → b ≡ d → ◌≡◌ {A = NameParts} (record { front = f; back = b }) (record { front = g; back = d })
    parts_same f g b d e h = cc

-- a text in which the place stands twice is no template
pub found_twice : (text front back : List ℕ) (i j m n : ℕ) → FindsText place text (Some (i, j)) → front ≡ take i text → back ≡ drop j text → FindsText place back (Some (m, n)) → IsNoTemplate text
found_twice text front back i j m n first f b second parts template =
    let spells = found_spells text front back i j first.1 f b in
    let again = found_spells back (take m back) (drop n back) m n second.1 refl refl in
    let long : List ℕ = front ++ (place ++ take m back) in
    let both : text ≡ long ++ (place ++ drop n back) = grind (arith, spells, again, append_assoc front (place ++ take m back) (place ++ drop n back)) in
    let one : front ≡ parts.front = ap (λ (p : NameParts). p.front) (template.once (record { front = front; back = back }) spells) in
    let other : long ≡ parts.front = ap (λ (p : NameParts). p.front) (template.once (record { front = long; back = drop n back }) both) in
    let same : length long ≡ length front = ap length (other ∙ sym one) in
    absurd (omega (arith, same, length-append front (place ++ take m back)))

-- a text in which the place does not stand is no template
pub found_nowhere : (text : List ℕ) → FindsText place text None → IsNoTemplate text
found_nowhere text none parts template = none_spells text none parts.front parts.back template.spells
