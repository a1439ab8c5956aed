use Rattle.std.proofs.Common.{◌≡◌, ◌++◌, ◌∙◌, List, ℕ, ap, refl, sym}
use Rattle.press_stream.specs.State.{with_piece}
use Rattle.press_core.proofs.JobLemmas.{ended_at, ended-fewer, pushed_at, pushed-fewer, pushes_ok}
use Rattle.press_core.proofs.work.RunningJob.supply.Goals as goal

pub returns-then-not-branch : goal.returns-then-not-branch
returns-then-not-branch c =
    let images = c.args.images.now in
    let none = c.in_ok-piece.ensures.ok.none c.if-not-branch.true in
    record {
      stands = λ items at. ended_at c.what_is_left.ensures items images c.args.self.now c.end_input.new.self c.piece.new.self none.0 c.end_input.ensures none.1 at;
      steps = refl;
      fewer = ended-fewer images c.args.self.now c.end_input.new.self c.piece.new.self none.0 c.end_input.ensures none.1 c.requires.going;
    }

pub returns : goal.returns
returns c =
    let images = c.args.images.now in
    let old = c.args.self.now in
    let gives = c.in_ok-piece.ensures.ok in
    let bytes : c.deref.result.now ≡ gives.piece = c.deref.ensures.value ∙ gives.appended ∙ ap (λ (before : List ℕ). before ++ gives.piece) c.new-piece.ensures.items in
    let is =
    pushes_ok old.job c.push.new.self c.deref.result.now c.push.result (sym c.is_err.ensures.value ∙ c.if-is_err.false)
    c.push.ensures.pushes
    ∙ ap (λ (piece : List ℕ). with_piece piece old.job) bytes in
    record {
      stands = λ items at. pushed_at c.what_is_left.ensures items images old c.push.new.self c.piece.new.self gives.piece c.requires.going gives.next is c.in_ok-piece.ensures.images at;
      steps = refl;
      fewer = pushed-fewer images old c.push.new.self c.piece.new.self gives.piece gives.next is (gives.some c.if-not-branch.false);
    }
