-- Templates in which an entry and a number have their places.
use Rattle.std.proofs.Common.{◌≡◌, ◌∷◌, ◌++◌, ℕ, Bool, true, false, List, None, inl, inr, append_assoc, arith}
use Rattle.std.specs.Prelude.{MatchBool}
use Rattle.std.specs.Fmt.{decimal}
use Rattle.std.specs.Str.Pattern.{FindsText, HasMatch}
use Rattle.press_files.proofs.MarkLemmas.{finds_nowhere, found_spells, parted}
use Rattle.press_sink.specs.Template.{NameParts}
use Rattle.press_files.specs.EntryTemplate.{EntryParts, IsNoEntryTemplate, NumberStands, SpellsRound, StandsNowhere, StandsOnce, entry_place, number_place}

-- neither mark begins again within itself
pub q_is_no_percent : ◌≡◌ {A = ℕ} 113 37 → ⊥
q_is_no_percent same = omega arith

pub d_is_no_percent : ◌≡◌ {A = ℕ} 100 37 → ⊥
d_is_no_percent same = omega arith

-- where the entry has its place, and the number has none
pub no_number : (text : List ℕ) (round : NameParts) → StandsOnce entry_place text round
    → ((parts : EntryParts) → ¬ (NumberStands round.front round.back parts)) → IsNoEntryTemplate text
no_number text round once none parts template =
    let same : template.round ≡ round = once.once template.round template.entry.spells in
    none parts (rw same at template.number)

-- the number stands once before, and not behind
pub number_nowhere : (before behind : List ℕ) → StandsNowhere number_place behind → ((round : NameParts) → ¬ (StandsOnce number_place before round))
    → (parts : EntryParts) → ¬ (NumberStands before behind parts)
number_nowhere before behind nowhere none parts (inl (once, rest, more, last)) = none _ once
number_nowhere before behind nowhere none parts (inr (rest, once, more, last)) = nowhere _ once.spells

-- whether the number stands in a text
pub has-number : (text : List ℕ) (found : Bool) → MatchBool found (HasMatch (FindsText number_place) text) (FindsText number_place text None)
    → MatchBool found ((round : NameParts) × SpellsRound number_place text round) (StandsNowhere number_place text)
has-number text true (i, j, finds, more, last) = (parted _ _, found_spells 37 100 d_is_no_percent text i j finds.1)
has-number text false none = finds_nowhere 37 100 d_is_no_percent text none

-- the name of a side whose number stands behind its entry
pub name-behind : (front middle back : List ℕ) (entry number : ℕ)
    → front ++ (81 ∷ (decimal entry ++ (middle ++ (decimal number ++ back)))) ≡ (front ++ (81 ∷ (decimal entry ++ middle))) ++ (decimal number ++ back)
name-behind front middle back entry number = grind (arith, append_assoc)
