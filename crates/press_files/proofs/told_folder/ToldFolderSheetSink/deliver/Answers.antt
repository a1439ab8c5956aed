use Rattle.std.proofs.Common.{◌≡◌, arith}
use mathlib.Core.Logic.{∥∥₁_map, ∥∥₁_elim}
use Rattle.std.specs.Coded.{le_prop}
use Rattle.press_files.proofs.FilesLemmas.{KeepsFolder-next, KeepsFolder-failed, KeepsFolder-again, fault_made}
use Rattle.press_files.proofs.told_folder.ToldFolderSheetSink.deliver.Goals as goal

pub invariant_of-self-clause-keeps : goal.invariant_of-self-clause-keeps
invariant_of-self-clause-keeps g c =
    let some = c.if-self-gt0.true in
    ∥∥₁_map c.args.self.now.keeps (λ keeps. KeepsFolder-again _ _ _ _ _ (λ none. omega (arith, none, some)) keeps)

pub deliver-requires : goal.deliver-requires
deliver-requires g c =
    let none : c.args.self.now.faults ≡ 0 = omega (arith, c.if-self-gt0.false) in
    ∥∥₁_elim c.args.self.now.keeps le_prop (λ keeps. omega (arith, keeps.sound none))

pub invariant_of-self-in-Ok-clause-keeps : goal.invariant_of-self-in-Ok-clause-keeps
invariant_of-self-in-Ok-clause-keeps g c =
    let none : c.args.self.now.faults ≡ 0 = omega (arith, c.if-self-gt0.false) in
    let made = rw c.in-Ok.is at c.deliver.ensures.made in
    let numbers = rw c.in-Ok.is at c.deliver.ensures.numbers in
    let delivers = rw c.in-Ok.is at c.deliver.ensures.delivers in
    ∥∥₁_map c.args.self.now.keeps (λ keeps.
    KeepsFolder-next _ _ _ _ _ (record { tag = c.args.tag; sheet = c.args.sheet.now }) _ _ none c.add.ensures keeps
    c.deliver.ensures.template made numbers delivers.1)

pub invariant_of-self-in-Err-SinkFault-clause-keeps : goal.invariant_of-self-in-Err-SinkFault-clause-keeps
invariant_of-self-in-Err-SinkFault-clause-keeps g c =
    let none : c.args.self.now.faults ≡ 0 = omega (arith, c.if-self-gt0.false) in
    let made = fault_made c.in-Err-SinkFault.field-0 _ _ _ c.in-Err-SinkFault.field-0-is c.in-Err-SinkFault.ensures.made in
    ∥∥₁_map c.args.self.now.keeps
    (λ keeps. KeepsFolder-failed _ _ _ _ c.args.sheet.now _ _ none keeps c.deliver.ensures.template made)
