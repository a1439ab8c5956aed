use Rattle.std.proofs.Common.{◌≡◌, ◌∙◌, ◌+◌, ◌∷◌, ◌++◌, [], List, ap, arith}
use mathlib.Core.Logic.{∥∥₁_map}
use Rattle.press_sink.specs.declared.delivery.Delivery.{Delivery}
use Rattle.press_files.specs.EntryKept.{entry_deliveries_of}
use Rattle.press_files.specs.Listed.{delivery_of}
use Rattle.press_files.specs.Numbering.{sides_of}
use Rattle.press_files.proofs.EntryPagesLemmas.{KeepsPages-again, KeepsPages-failed, KeepsPages-next}
use Rattle.press_files.proofs.FilesLemmas.{fault_made}
use Rattle.press_files.proofs.entry_pages.EntryPages.take.Goals as goal

pub invariant_of-self-clause-keeps : goal.invariant_of-self-clause-keeps
invariant_of-self-clause-keeps g c =
    let some = c.if-self-gt0.true in
    ∥∥₁_map c.args.self.now.keeps (λ keeps. KeepsPages-again _ _ _ _ _ _ (λ none. omega (arith, none, some)) keeps)

pub invariant_of-self-in-Ok-make_by-clause-keeps : goal.invariant_of-self-in-Ok-make_by-clause-keeps
invariant_of-self-in-Ok-make_by-clause-keeps g c =
    let none : c.args.self.now.faults ≡ 0 = omega (arith, c.if-self-gt0.false) in
    let made = rw c.in-Ok-make_by.is at c.make_by.ensures.made in
    let reserved = ap entry_deliveries_of c.in-Ok.ensures.kept in
    let all = c.put.ensures.kept ∙ ap (λ (had : List Delivery). had ++ delivery_of c.args.listed ∷ []) reserved in
    let number = c.next_side-number.ensures ∙ ap (λ (had : List Delivery). sides_of c.args.tag had + 1) reserved in
    ∥∥₁_map c.args.self.now.keeps (λ keeps.
    KeepsPages-next _ _ _ _ _ _ _ _ _ _ _ _ none all c.requires.listed number made keeps)

pub invariant_of-self-in-Err-SinkFault-clause-keeps : goal.invariant_of-self-in-Err-SinkFault-clause-keeps
invariant_of-self-in-Err-SinkFault-clause-keeps g c =
    let none : c.args.self.now.faults ≡ 0 = omega (arith, c.if-self-gt0.false) in
    let made = fault_made c.in-Err-SinkFault.field-0 _ _ _ c.in-Err-SinkFault.field-0-is c.in-Err-SinkFault.ensures.made in
    let reserved = ap entry_deliveries_of c.in-Ok.ensures.kept in
    let number = c.next_side-number.ensures ∙ ap (λ (had : List Delivery). sides_of c.args.tag had + 1) reserved in
    ∥∥₁_map c.args.self.now.keeps (λ keeps.
    KeepsPages-failed _ _ _ _ _ _ _ _ _ _ _ none reserved number made keeps)
