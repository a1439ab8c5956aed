use Rattle.std.proofs.Common.{◌≡◌, ◌++◌, [], List, ℕ, sym, ap, ◌∙◌, subst, append_assoc, append-nil}
use Rattle.std.specs.Io.KnownBytes.{Appends}
use Rattle.std.proofs.KnownBytes.{Appends-trans}
use Rattle.std.proofs.lemmas.Result.{MatchResult-from_err}
use Rattle.press_devices.specs.Writing.{AppendsPrefix, Writes}
use Rattle.press_devices.proofs.WritesLemmas.{prefix_more, prefix_then, Writes-then}
use Rattle.press_writer.specs.Left.{bytes_left}
use Rattle.press_writer.proofs.LeftLemmas.{held_more}
use Rattle.press_writer.proofs.writing.write_pieces.Goals as goal

pub returns-in_err-write_bytes-clause-written : goal.returns-in_err-write_bytes-clause-written
returns-in_err-write_bytes-clause-written g c =
    let inv = c.loop-held.invariant in
    let gives = c.in_ok-piece.ensures.ok in
    let more = bytes_left c.piece.new.self c.args.images.now in
    let held = c.piece.new.out.items in
    let left = held_more _ inv.done c.loop-held.held.items held gives.piece _ more inv.left gives.appended gives.next in
    MatchResult-from_err _ _ _ c.from_residual-in_err-write_bytes.ensures.0
    (λ _. subst (AppendsPrefix _ _) (sym left)
    (prefix_then _ _ _ inv.done (held ++ more) inv.wrote
    (prefix_more _ _ held more (subst (AppendsPrefix _ _) c.deref.ensures.value c.in_err-write_bytes.ensures.written))))

pub loop-held-preserved-then-len-ge-WRITE_SIZE : goal.loop-held-preserved-then-len-ge-WRITE_SIZE
loop-held-preserved-then-len-ge-WRITE_SIZE g c =
    let inv = c.loop-held.invariant in
    let gives = c.in_ok-piece.ensures.ok in
    let more = bytes_left c.piece.new.self c.args.images.now in
    let held = c.piece.new.out.items in
    let left = held_more _ inv.done c.loop-held.held.items held gives.piece _ more inv.left gives.appended gives.next in
    record {
      images = c.piece.ensures.images;
      done = inv.done ++ held;
      left = left ∙ sym (append_assoc inv.done held more) ∙ ap (λ items. (inv.done ++ held) ++ (items ++ more)) (sym {A = List ℕ} c.clear.ensures.items);
      wrote = Appends-trans _ _ _ _ _ inv.wrote (subst (Appends _ _) c.deref.ensures.value c.in_ok-write_bytes.ensures.written);
    }

pub returns-clause-written : goal.returns-clause-written
returns-clause-written g c =
    let inv = c.loop-held.invariant in
    let gives = c.in_ok-piece.ensures.ok in
    let held = c.piece.new.out.items in
    let more = bytes_left c.piece.new.self c.args.images.now in
    let none = gives.none c.if-branch.false in
    let left = held_more _ inv.done c.loop-held.held.items held gives.piece _ more inv.left gives.appended gives.next in
    let nothing : more ≡ [] = ap (λ left. bytes_left left c.args.images.now) none.1 ∙ none.0 in
    let all = left ∙ ap (λ bytes. inv.done ++ (held ++ bytes)) nothing ∙ ap (λ bytes. inv.done ++ bytes) (append-nil held) in
    subst (Writes c.write_bytes-2.result _ _) (sym all)
    (Writes-then c.write_bytes-2.result _ _ _ inv.done held inv.wrote (subst (Writes _ _ _) c.deref-2.ensures.value c.write_bytes-2.ensures.written))
