use Rattle.std.proofs.Common.{◌≡◌, [], ◌+◌, ◌++◌, Ok, Err, refl, sym, ap, get_or, take, drop, arith}
use Rattle.std.specs.List.{flat_map}
use Rattle.std.proofs.lemmas.List.{take_all}
use Rattle.press_units.proofs.ExitLemmas.{exit-is}
use Rattle.press_sink.proofs.SendingLemmas.{Took-has_fault_room}
use Rattle.press_stream.specs.State.{opened}
use Rattle.press_stream.proofs.MeaningLaws.{printed-means}
use Rattle.press_stream.proofs.Going.{CarriesOn-to}
use Rattle.press_stream.proofs.ChainLemmas.{stops-handed}
use Rattle.press_stream.proofs.ChainLemmas.{opened-going, pieces-next, HandsOut-opened, HandsOut-more, Prints-end, pieces-rest, PrintedTo-before, PrintedTo-none, PrintedTo-end, fed}
use Rattle.press_stream.proofs.pieces.print_pieces.Goals as goal

pub loop-piece-init : goal.loop-piece-init
loop-piece-init g c = record {
  goes = HandsOut-opened c.in_ok-job.job c.args.tag _ c.in_ok-job.ensures;
  going = opened-going c.in_ok-job.job c.in_ok-job.ensures;
  has_fault_room = c.requires;
}

pub loop-piece-preserved : goal.loop-piece-preserved
loop-piece-preserved g c =
    let pieces = c.args.pieces.now in
    let i = c.loop-piece.piece-index in
    let piece = get_or pieces i (record { ref_ptr = (0, 0); now = [] }) in
    let more = c.in_ok-feed.ensures.feeds in
    let so_far = c.loop-piece.invariant in
    record {
      goes = HandsOut-more (flat_map (λ piece. piece.now) (take i pieces)) piece.now (flat_map (λ piece. piece.now) (take (i + 1) pieces)) c.args.tag (Ok tt)
          c.loop-piece.job c.feed.new.self _ _ _ (pieces-next (λ piece. piece.now) pieces i (record { ref_ptr = (0, 0); now = [] }) c.loop-piece-test.true) so_far.going so_far.goes
          (fed c.loop-piece.job c.feed.new.self piece.now c.args.tag (Ok tt) _ _ so_far.going more);
      going = more.is.1.going;
      has_fault_room = Took-has_fault_room c.args.tag more.went _ _ more.took so_far.has_fault_room;
    }

pub returns-clause-ok : goal.returns-clause-ok
returns-clause-ok g c =
    let pieces = c.args.pieces.now in
    let i = c.loop-piece.piece-index in
    Prints-end c.chain.ensures.prints (flat_map (λ piece. piece.now) (take i pieces)) (flat_map (λ piece. piece.now) pieces) c.args.tag
    c.loop-piece.job c.finish.new.self _ _ _ (sym (ap (flat_map (λ piece. piece.now)) (take_all i pieces c.loop-piece-test.false)))
    c.loop-piece.invariant.goes (rw c.in_ok-finish.was at c.finish.ensures.finishes)

pub returns-clause-means : goal.returns-clause-means
returns-clause-means g c = grind (arith, printed-means (flat_map (λ piece. piece.now) c.args.pieces.now) c.finish.new.self.machine c.args.tag _ _ (returns-clause-ok g c))

pub returns-in_err-job-clause-err : goal.returns-in_err-job-clause-err
returns-in_err-job-clause-err g c =
    rw (exit-is c.from_residual.ensures.1) (PrintedTo-none c.chain.ensures.prints (flat_map (λ piece. piece.now) c.args.pieces.now) c.args.tag _)

pub returns-in_err-feed-clause-err : goal.returns-in_err-feed-clause-err
returns-in_err-feed-clause-err g c =
    let pieces = c.args.pieces.now in
    let i = c.loop-piece.piece-index in
    let piece = get_or pieces i (record { ref_ptr = (0, 0); now = [] }) in
    let front = flat_map (λ piece. piece.now) (take i pieces) in
    let so_far = c.loop-piece.invariant in
    let same : front ++ piece.now ≡ front ++ piece.now = refl in
    rw (exit-is c.from_residual-in_err-feed.ensures.1)
    (PrintedTo-before c.chain.ensures.prints (front ++ piece.now) (flat_map (λ piece. piece.now) (drop (i + 1) pieces)) (flat_map (λ piece. piece.now) pieces)
    c.args.tag c.in_err-feed.field-0.0 c.feed.new.self _ _ (pieces-rest (λ piece. piece.now) pieces i (record { ref_ptr = (0, 0); now = [] }) c.loop-piece-test.true)
    (HandsOut-more front piece.now (front ++ piece.now) c.args.tag (Err c.in_err-feed.field-0.0) c.loop-piece.job c.feed.new.self _ _ _
    same so_far.going so_far.goes
    (fed c.loop-piece.job c.feed.new.self piece.now c.args.tag (Err c.in_err-feed.field-0.0) _ _ so_far.going c.in_err-feed.ensures.feeds)))

pub returns-in_err-finish-clause-err : goal.returns-in_err-finish-clause-err
returns-in_err-finish-clause-err g c =
    let pieces = c.args.pieces.now in
    let i = c.loop-piece.piece-index in
    rw (exit-is c.from_residual-in_err-finish.ensures.1)
    (PrintedTo-end c.chain.ensures.prints (flat_map (λ piece. piece.now) (take i pieces)) (flat_map (λ piece. piece.now) pieces)
    c.args.tag c.in_err-finish.field-0.0 c.loop-piece.job c.finish.new.self _ _ _
    (sym (ap (flat_map (λ piece. piece.now)) (take_all i pieces c.loop-piece-test.false))) c.loop-piece.invariant.goes c.in_err-finish.ensures.finishes)

pub returns-in_err-feed-clause-unread : goal.returns-in_err-feed-clause-unread
returns-in_err-feed-clause-unread g c =
    let pieces = c.args.pieces.now in
    let i = c.loop-piece.piece-index in
    let piece = get_or pieces i (record { ref_ptr = (0, 0); now = [] }) in
    let so_far = c.loop-piece.invariant in
    let running = CarriesOn-to opened c.loop-piece.job (flat_map (λ piece. piece.now) (take i pieces)) so_far.goes.went so_far.goes.is in
    let goes = fed c.loop-piece.job c.feed.new.self piece.now c.args.tag (Err c.in_err-feed.field-0.0) _ _ so_far.going c.in_err-feed.ensures.feeds in
    rw (exit-is c.from_residual-in_err-feed.ensures.1)
    (stops-handed c.loop-piece.job c.feed.new.self piece.now c.in_err-feed.field-0.0 goes.went running so_far.going goes.is)
