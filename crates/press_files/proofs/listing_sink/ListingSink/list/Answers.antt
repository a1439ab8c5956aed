use Rattle.std.proofs.Common.{◌≡◌, ◌∙◌, ◌+◌, ◌++◌, ◌∷◌, [], length, Bool, sym, ap, subst, arith}
use mathlib.Core.Logic.{∥∥₁_map}
use Rattle.press_bits.specs.PrintedSheet.{PrintedSheet}
use Rattle.press_sink.specs.Sending.{sheets_in}
use Rattle.press_files.specs.Listed.{delivery_of}
use Rattle.press_files.specs.Listing.{HasListed, lines_from, sheet_lines}
use Rattle.press_files.proofs.AgainLemmas.{last-taken}
use Rattle.press_files.proofs.ListingLemmas.{listed-sheet}
use Rattle.press_files.proofs.listing_sink.ListingSink.list.Goals as goal

pub invariant_of-self-clause-lists : goal.invariant_of-self-clause-lists
invariant_of-self-clause-lists g c =
    let taken = c.args.self.now.taken in
    let number : c.in-Some.number ≡ 1 + length taken = omega (arith, c.in-Some.ensures, c.args.self.now.counted) in
    let is : c.add.new.self ≡ taken ++ delivery_of c.args.listed ∷ [] =
    c.add.ensures ∙ ap (λ (sheet : PrintedSheet). taken ++ record { tag = c.args.listed.tag; sheet = sheet } ∷ []) (sym c.requires.sheet) in
    ∥∥₁_map c.args.self.now.lists (λ listed.
    listed-sheet g.D.Unlisted.sums c.list_more-self.result _ _ taken c.add.new.self (delivery_of c.args.listed) c.in-Some.number is number
    (subst (HasListed c.list_more-self.result _ _)
    (ap (λ (sums : Bool). lines_from g.D.Unlisted.sums 1 (sheets_in taken) ++ sheet_lines sums c.in-Some.number c.args.listed.sheet.value) c.requires.sums)
    (c.list_more-self.ensures.lists _ (lines_from g.D.Unlisted.sums 1 (sheets_in taken)) listed)))

pub invariant_of-self-clause-kept : goal.invariant_of-self-clause-kept
invariant_of-self-clause-kept g c =
    let taken = c.args.self.now.taken in
    let is : c.add.new.self ≡ taken ++ delivery_of c.args.listed ∷ [] =
    c.add.ensures ∙ ap (λ (sheet : PrintedSheet). taken ++ record { tag = c.args.listed.tag; sheet = sheet } ∷ []) (sym c.requires.sheet) in
    ∣ last-taken taken c.add.new.self (delivery_of c.args.listed) is ∣₁
