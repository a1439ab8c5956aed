use Rattle.std.proofs.lemmas.Bool.{true≢false}
use Rattle.std.proofs.Common.{arith}
use Rattle.std.proofs.Common.{◌≡◌, ◌∙◌, ℕ, List, [], ◌++◌, take, drop, Ok, Err, refl, sym, ap, append_assoc}
use Rattle.std.proofs.lemmas.List.{take-append-drop, take_rest}
use Rattle.press_units.proofs.ExitLemmas.{exit-is}
use Rattle.press_sink.proofs.SendingLemmas.{Took-has_fault_room}
use Rattle.press_stream.proofs.Going.{CarriesOn-none}
use Rattle.press_stream.proofs.Faults.{HandsOut-before, HandsOut-goes, HandsOut-nothing, HandsOut-part}
use Rattle.press_stream.proofs.job.Job.feed_by_parts.Goals as goal

pub loop-rest-init : goal.loop-rest-init
loop-rest-init g c = record {
  fed = [];
  piece = refl;
  goes = HandsOut-nothing c.args.self.now c.args.self.now [] c.args.tag _ (CarriesOn-none c.args.self.now c.requires.hungry.running);
  hungry = c.requires.hungry;
  has_fault_room = c.requires.has_fault_room;
}

pub loop-rest-preserved : goal.loop-rest-preserved
loop-rest-preserved g c =
    let so_far = c.loop-rest.invariant in
    let part : List ℕ = take c.take-count.result c.loop-rest.rest.now in
    let drained = rw c.in_ok-drain.was at c.drain.ensures.drains in
    let idle = rw c.in_ok-drain.was at c.drain.ensures.idle in
    let going = ap (λ job. job.held.ended) c.take-count.ensures.taken ∙ so_far.hungry.going in
    let taken = HandsOut-part c.loop-rest.self c.take-count.new.self c.drain.new.self part (Ok tt) c.args.tag _ _ so_far.hungry c.take-count.ensures.taken drained in
    record {
      fed = so_far.fed ++ part;
      piece =
          so_far.piece
          ∙ ap (λ (xs : List ℕ). so_far.fed ++ xs) (sym (take-append-drop c.take-count.result c.loop-rest.rest.now))
          ∙ sym (append_assoc so_far.fed part (drop c.take-count.result c.loop-rest.rest.now))
          ∙ ap (λ (xs : List ℕ). (so_far.fed ++ part) ++ xs) (sym (take_rest c.loop-rest.rest.now c.take-count.result));
      goes = HandsOut-goes c.args.self.now c.loop-rest.self c.drain.new.self so_far.fed part (Ok tt) c.args.tag _ _ _ (so_far.hungry.going ∙ sym c.requires.hungry.going) so_far.goes taken;
      hungry = grind (arith, true≢false, idle.0, idle.1);
      has_fault_room = Took-has_fault_room c.args.tag taken.went _ _ taken.took so_far.has_fault_room;
    }

pub returns-in_err-drain-clause-goes : goal.returns-in_err-drain-clause-goes
returns-in_err-drain-clause-goes g c =
    let so_far = c.loop-rest.invariant in
    let part : List ℕ = take c.take-count.result c.loop-rest.rest.now in
    let rest : List ℕ = drop c.take-count.result c.loop-rest.rest.now in
    let whole : (so_far.fed ++ part) ++ rest ≡ c.args.piece.now =
    append_assoc so_far.fed part rest ∙ ap (λ (xs : List ℕ). so_far.fed ++ xs) (take-append-drop c.take-count.result c.loop-rest.rest.now) ∙ sym so_far.piece in
    rw (exit-is c.from_residual.ensures.1, sym whole) (HandsOut-before c.args.self.now c.drain.new.self (so_far.fed ++ part) rest c.args.tag _ _ _
    (HandsOut-goes c.args.self.now c.loop-rest.self c.drain.new.self so_far.fed part (Err _) c.args.tag _ _ _ (so_far.hungry.going ∙ sym c.requires.hungry.going) so_far.goes
    (HandsOut-part c.loop-rest.self c.take-count.new.self c.drain.new.self part (Err _) c.args.tag _ _ so_far.hungry c.take-count.ensures.taken
    (rw c.in_err-drain.was at c.drain.ensures.drains))))
