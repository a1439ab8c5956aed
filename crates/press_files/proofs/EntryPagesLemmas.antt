-- What is made of the sheets of entries, and the lines that tell it.
use Rattle.std.proofs.Common.{◌≡◌, ◌∙◌, ◌+◌, ℕ, zero, suc, List, [], ◌∷◌, ◌++◌, length, drop, take, take-append-drop, slice_range, ◌≤◌}
use Rattle.std.proofs.Common.{Option, Some, None, refl, sym, ap, subst, arith}
use Rattle.std.proofs.lemmas.List.{append_assoc, append-nil, drop_all, map-append}
use Rattle.std.proofs.lemmas.List.Folds.{drop_split}
use Rattle.press_bits.specs.PrintedSheet.{PrintedSheet}
use Rattle.std.specs.Coded.{Coded-set, coded_list, coded_ℕ}
use mathlib.Core.Logic.{∥∥₁_elim}
use Rattle.press_sink.specs.declared.delivery.Delivery.{Delivery}
use Rattle.press_sink.specs.Outputs.{MadeOutput, MakesPrefix, IsCut, with_outputs}
use Rattle.press_sink.proofs.SendingLemmas.{told-nothing, told-twice}
use Rattle.press_files.specs.declared.entry_sheets.EntrySheet.{EntrySheet}
use Rattle.press_files.specs.EntryPages.{KeepsPages, MakesPages, StandsBehindPages, outputs_behind, outputs_by, page_lines, pages_behind, tags_of}
use Rattle.press_files.specs.EntryKept.{ArePlaced, entries_of, entry_deliveries_of, kept_page_lines}
use Rattle.press_files.specs.EntryTemplate.{EntryParts}
use Rattle.press_files.specs.Numbering.{sides_of}
use Rattle.press_files.proofs.FilesLemmas.{made_code}

-- ---- the outputs of one sheet more

pages_behind-push : (parts : Option EntryParts) (before deliveries : List Delivery) (one : Delivery)
    → pages_behind parts before (deliveries ++ one ∷ []) ≡ pages_behind parts before deliveries ++ outputs_behind parts (before ++ deliveries) one
pages_behind-push parts before [] one = grind (arith, append-nil)
pages_behind-push parts before (first ∷ deliveries) one = grind (arith, append_assoc, pages_behind-push parts (before ++ first ∷ []) deliveries one)

module _ (parts : Option EntryParts) (begun : Option (List MadeOutput)) where
  -- without a fault the outputs are those of the sheets
  pub MakesPages-whole : (deliveries : List Delivery) (faults : ℕ) (now : Option (List MadeOutput)) → faults ≡ 0
      → MakesPages parts deliveries faults begun now → now ≡ with_outputs (pages_behind parts [] deliveries) begun
  MakesPages-whole deliveries faults now none makes = grind (arith, append-nil)

  -- a sheet was taken
  pub MakesPages-more : (deliveries all : List Delivery) (one : Delivery) (faults : ℕ) (now next : Option (List MadeOutput)) → faults ≡ 0
      → all ≡ deliveries ++ one ∷ [] → next ≡ with_outputs (outputs_behind parts deliveries one) now
      → MakesPages parts deliveries faults begun now → MakesPages parts all faults begun next
  MakesPages-more deliveries all one faults now next none are made makes =
      rw (none, are) (record {
        behind = [];
        stands = refl;
        made =
            made ∙ ap (with_outputs (outputs_behind parts deliveries one)) (MakesPages-whole deliveries faults now none makes)
            ∙ told-twice begun (pages_behind parts [] deliveries) (outputs_behind parts deliveries one)
            ∙ ap (λ (outputs : List MadeOutput). with_outputs outputs begun)
            (sym (append-nil (pages_behind parts [] (deliveries ++ one ∷ [])) ∙ pages_behind-push parts [] deliveries one));
      })

  -- a sheet had a fault, the first one
  pub MakesPages-fault : (deliveries : List Delivery) (one : Delivery) (faults : ℕ) (now next : Option (List MadeOutput)) → faults ≡ 0
      → MakesPrefix (outputs_behind parts deliveries one) now next → MakesPages parts deliveries faults begun now
      → MakesPages parts deliveries (faults + 1) begun next
  MakesPages-fault deliveries one faults now next none front makes =
      let first : 1 ≡ faults + 1 = omega (arith, none) in
      subst (λ n. MakesPages parts deliveries n begun next) first (record {
        behind = front.0;
        stands = (one, front.1);
        made =
            front.2 ∙ ap (with_outputs front.0) (MakesPages-whole deliveries faults now none makes)
            ∙ told-twice begun (pages_behind parts [] deliveries) front.0;
      })

-- without a template nothing is made
pages_behind-none : (before deliveries : List Delivery) → pages_behind None before deliveries ≡ []
pages_behind-none before [] = refl
pages_behind-none before (one ∷ deliveries) = pages_behind-none (before ++ one ∷ []) deliveries

prefix-none : (behind whole cut others : List MadeOutput) → [] ≡ whole ++ others → behind ≡ whole ++ cut → IsCut cut others → behind ≡ []
prefix-none behind [] [] [] split is cuts = is
prefix-none behind [] (one ∷ []) [] split is cuts = absurd cuts
prefix-none behind [] (one ∷ other ∷ cut) [] split is cuts = absurd cuts
prefix-none behind [] cut (other ∷ others) split is cuts = cc
prefix-none behind (one ∷ whole) cut others split is cuts = cc

stands-none : (faults : ℕ) (behind : List MadeOutput) (deliveries : List Delivery) → StandsBehindPages faults behind None deliveries → behind ≡ []
stands-none zero behind deliveries stands = stands
stands-none (suc faults) behind deliveries (one, front) = prefix-none behind front.whole front.cut front.others front.in_order front.is_made front.is_cut

MakesPages-none : (deliveries : List Delivery) (faults : ℕ) (begun now : Option (List MadeOutput)) → MakesPages None deliveries faults begun now → now ≡ begun
MakesPages-none deliveries faults begun now makes =
    makes.made ∙ ap (λ (behind : List MadeOutput). with_outputs (pages_behind None [] deliveries ++ behind) begun) (stands-none faults makes.behind deliveries makes.stands)
    ∙ ap (λ (outputs : List MadeOutput). with_outputs (outputs ++ []) begun) (pages_behind-none [] deliveries) ∙ sym (told-nothing begun)

pub pages-unmade : (parts : Option EntryParts) (deliveries : List Delivery) (faults : ℕ) (begun now : Option (List MadeOutput)) → parts ≡ None
    → ∥ MakesPages parts deliveries faults begun now ∥₁ → now ≡ begun
pages-unmade parts deliveries faults begun now none makes =
    ∥∥₁_elim makes (Coded-set made_code now begun)
    (λ one. MakesPages-none deliveries faults begun now (subst (λ (of : Option EntryParts). MakesPages of deliveries faults begun now) none one))

-- what was made of sheets that were all delivered
pub pages-made : (parts : Option EntryParts) (deliveries : List Delivery) (faults : ℕ) (begun now : Option (List MadeOutput)) → faults ≡ 0
    → ∥ MakesPages parts deliveries faults begun now ∥₁ → now ≡ with_outputs (pages_behind parts [] deliveries) begun
pages-made parts deliveries faults begun now none makes =
    ∥∥₁_elim makes (Coded-set made_code now (with_outputs (pages_behind parts [] deliveries) begun))
    (λ one. MakesPages-whole parts begun deliveries faults now none one)

-- ---- what a sink keeps

-- nothing more was made after a fault
pub KeepsPages-again : (parts : Option EntryParts) (begun : Option (List MadeOutput)) (deliveries : List Delivery) (faults : ℕ) (named : Option EntryParts) (now : Option (List MadeOutput))
    → (faults ≡ 0 → ⊥) → KeepsPages parts begun deliveries faults named now → KeepsPages parts begun deliveries (faults + 1) named now
KeepsPages-again parts begun deliveries faults named now some keeps = grind arith

-- a sheet was taken, of this entry, whose front has this number
pub KeepsPages-next : (parts : Option EntryParts) (begun : Option (List MadeOutput)) (deliveries all : List Delivery) (one : Delivery) (faults : ℕ) (named : Option EntryParts)
    (now next : Option (List MadeOutput)) (number tag : ℕ) (sheet : PrintedSheet)
    → faults ≡ 0 → all ≡ deliveries ++ one ∷ [] → one ≡ record { tag = tag; sheet = sheet } → number ≡ sides_of tag deliveries + 1
    → next ≡ with_outputs (outputs_by named tag number sheet) now
    → KeepsPages parts begun deliveries faults named now → KeepsPages parts begun all faults named next
KeepsPages-next parts begun deliveries all one faults named now next number tag sheet none are is place made keeps =
    let outputs : outputs_by named tag number sheet ≡ outputs_behind parts deliveries one =
    ap (λ (n : ℕ). outputs_by named tag n sheet) place ∙ ap (λ (of : Option EntryParts). outputs_by of tag (sides_of tag deliveries + 1) sheet) keeps.is_named
    ∙ ap (outputs_behind parts deliveries) (sym is) in
    record {
      is_named = keeps.is_named;
      makes =
          MakesPages-more parts begun deliveries all one faults now next none are
          (made ∙ ap (λ (these : List MadeOutput). with_outputs these now) outputs) keeps.makes;
    }

-- the same, where it had a fault
pub KeepsPages-failed : (parts : Option EntryParts) (begun : Option (List MadeOutput)) (deliveries same : List Delivery) (faults : ℕ) (named : Option EntryParts)
    (now next : Option (List MadeOutput)) (number tag : ℕ) (sheet : PrintedSheet)
    → faults ≡ 0 → same ≡ deliveries → number ≡ sides_of tag deliveries + 1 → MakesPrefix (outputs_by named tag number sheet) now next
    → KeepsPages parts begun deliveries faults named now → KeepsPages parts begun same (faults + 1) named next
KeepsPages-failed parts begun deliveries same faults named now next number tag sheet none are place front keeps =
    let outputs : outputs_by named tag number sheet ≡ outputs_behind parts deliveries (record { tag = tag; sheet = sheet }) =
    ap (λ (n : ℕ). outputs_by named tag n sheet) place ∙ ap (λ (of : Option EntryParts). outputs_by of tag (sides_of tag deliveries + 1) sheet) keeps.is_named in
    rw are (record {
      is_named = keeps.is_named;
      makes =
          MakesPages-fault parts begun deliveries (record { tag = tag; sheet = sheet }) faults now next none
          (subst (λ (these : List MadeOutput). MakesPrefix these now next) outputs front) keeps.makes;
    })

-- what is told by the template is told by the folder's
pub pages-named : (parts : Option EntryParts) (begun : Option (List MadeOutput)) (deliveries : List Delivery) (faults : ℕ) (named : Option EntryParts) (now : Option (List MadeOutput))
    → ∥ KeepsPages parts begun deliveries faults named now ∥₁ → (lines : List ℕ) (before behind : List Delivery)
    → lines ≡ page_lines named before behind → lines ≡ page_lines parts before behind
pages-named parts begun deliveries faults named now keeps lines before behind is =
    ∥∥₁_elim keeps (Coded-set (coded_list coded_ℕ) lines (page_lines parts before behind))
    (λ one. is ∙ ap (λ (of : Option EntryParts). page_lines of before behind) one.is_named)

-- without a template nothing is told
pub page_lines-without : (before deliveries : List Delivery) → page_lines None before deliveries ≡ []
page_lines-without before [] = refl
page_lines-without before (one ∷ deliveries) = page_lines-without (before ++ one ∷ []) deliveries

-- the rest of a list, by its places
pub slice_range-behind : (sheets : List EntrySheet) (count : ℕ) → count ≤ length sheets → slice_range sheets count (length sheets) ≡ drop count sheets
slice_range-behind sheets count within =
    sym (drop_split sheets count (length sheets) within
    ∙ ap (λ (rest : List EntrySheet). slice_range sheets count (length sheets) ++ rest) (drop_all (length sheets) sheets (omega arith))
    ∙ append-nil (slice_range sheets count (length sheets)))

-- ---- the lines of sheets that are kept

-- one sheet more was told
tags-same : (sheets : List EntrySheet) → tags_of (entry_deliveries_of sheets) ≡ entries_of sheets
tags-same [] = refl
tags-same (one ∷ sheets) = ap (λ (more : List ℕ). one.sheet.tag ∷ more) (tags-same sheets)

-- where each sheet has its numbers, the lines of the sheets behind others are those of their deliveries
pub kept_page_lines-are : (parts : EntryParts) (all front sheets : List EntrySheet) → ArePlaced all → all ≡ front ++ sheets
    → kept_page_lines parts sheets ≡ page_lines (Some parts) (entry_deliveries_of front) (entry_deliveries_of sheets)
kept_page_lines-are parts all front [] placed are = refl
kept_page_lines-are parts all front (one ∷ sheets) placed are =
    grind (arith, tags-same, map-append, kept_page_lines-are parts all (front ++ one ∷ []) sheets placed (are ∙ sym (append_assoc front (one ∷ []) sheets)))

-- what was delivered is cut where the sheets are
deliveries-cut : (sheets : List EntrySheet) (count : ℕ) (before behind : List Delivery) → entry_deliveries_of sheets ≡ before ++ behind → length before ≡ count
    → (entry_deliveries_of (take count sheets) ≡ before) × (entry_deliveries_of (drop count sheets) ≡ behind)
deliveries-cut sheets zero [] behind split long = (refl, split)
deliveries-cut sheets zero (first ∷ before) behind split long = absurd (omega (arith, long))
deliveries-cut sheets (suc count) [] behind split long = absurd (omega (arith, long))
deliveries-cut [] (suc count) (first ∷ before) behind split long = cc
deliveries-cut (one ∷ sheets) (suc count) (first ∷ before) behind split long =
    grind (arith, deliveries-cut sheets count before behind (cc) (omega (arith, long)))

-- the lines of the sheets behind the first so many
pub page_lines-behind : (parts : EntryParts) (sheets : List EntrySheet) (count : ℕ) (before behind : List Delivery) → ArePlaced sheets
    → entry_deliveries_of sheets ≡ before ++ behind → length before ≡ count
    → kept_page_lines parts (drop count sheets) ≡ page_lines (Some parts) before behind
page_lines-behind parts sheets count before behind placed split long =
    let cut = deliveries-cut sheets count before behind split long in
    kept_page_lines-are parts sheets (take count sheets) (drop count sheets) placed (sym (take-append-drop count sheets))
    ∙ ap (λ (these : List Delivery). page_lines (Some parts) these (entry_deliveries_of (drop count sheets))) cut.0
    ∙ ap (λ (these : List Delivery). page_lines (Some parts) before these) cut.1
