use Rattle.std.proofs.Common.{◌≡◌, ◌∙◌, sym, ap, option_map}
use Rattle.std.specs.Coded.{Coded-set}
use mathlib.Core.Logic.{∥∥₁_elim}
use Rattle.press_sink.specs.declared.delivery.Delivery.{Delivery}
use Rattle.press_files.specs.Files.{delivery_code}
use Rattle.press_files.specs.Listed.{delivery_of}
use Rattle.press_files.proofs.AgainLemmas.{delivers-listed, kept-last}
use Rattle.press_files.proofs.listing_sink.ListingSinkSheetSink.deliver_again.Goals as goal

pub again-again-requires : goal.again-again-requires
again-again-requires g c =
    let one : Delivery = record { tag = c.args.tag; sheet = c.args.sheet.now } in
    let same : delivery_of c.in-Some.last ≡ one =
    ∥∥₁_elim c.args.self.now.kept (Coded-set delivery_code _ _) (λ kept.
    kept-last (delivery_of c.in-Some.last) one c.args.self.now.taken c.requires.last.0
    (ap (option_map delivery_of) (sym c.in-Some.is) ∙ kept) c.requires.last.1) in
    ap (λ (delivery : Delivery). delivery.sheet) same

pub list-requires-clause-sheet : goal.list-requires-clause-sheet
list-requires-clause-sheet g c =
    let one : Delivery = record { tag = c.args.tag; sheet = c.args.sheet.now } in
    let same : delivery_of c.in-Some.last ≡ one =
    ∥∥₁_elim c.args.self.now.kept (Coded-set delivery_code _ _) (λ kept.
    kept-last (delivery_of c.in-Some.last) one c.args.self.now.taken c.requires.last.0
    (ap (option_map delivery_of) (sym c.in-Some.is) ∙ kept) c.requires.last.1) in
    ap (λ (delivery : Delivery). delivery.sheet) (c.again-again.ensures.delivered ∙ same)

pub returns : goal.returns
returns g c =
    let one : Delivery = record { tag = c.args.tag; sheet = c.args.sheet.now } in
    let same : delivery_of c.in-Some.last ≡ one =
    ∥∥₁_elim c.args.self.now.kept (Coded-set delivery_code _ _) (λ kept.
    kept-last (delivery_of c.in-Some.last) one c.args.self.now.taken c.requires.last.0
    (ap (option_map delivery_of) (sym c.in-Some.is) ∙ kept) c.requires.last.1) in
    delivers-listed c.list.result c.args.self.now.taken c.list.new.self.taken (delivery_of c.again-again.result) one (c.again-again.ensures.delivered ∙ same)
    c.list.ensures.ok c.list.ensures.err c.list.ensures.memory
