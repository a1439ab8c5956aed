use Rattle.std.proofs.Common.{◌≡◌, ◌++◌, ◌∙◌, ℕ, List, [], Ok, refl, sym, ap, subst, append_assoc, append-nil}
use Rattle.press_sink.specs.Kept.{deliveries, replied}
use Rattle.press_sink.specs.SinkLog.{SinkLog, under}
use Rattle.press_sink.specs.Sending.{Complete, HandsOut}
use Rattle.press_stream.specs.Meaning.{CarriesOn}
use Rattle.press_stream.specs.State.{opened}
use Rattle.press_writer.specs.Left.{bytes_left}
use Rattle.press_stream.proofs.ChainLemmas.{HandsOut-more, HandsOut-opened, Prints-end, fed, opened-going}
use Rattle.press_theorem.proofs.TicketLemmas.{delivers-of, told_by}
use Rattle.press_theorem.proofs.tickets.print_job.Goals as goal

pub loop-piece-init : goal.loop-piece-init
loop-piece-init c =
    let fresh : told_by (deliveries c.new-sheets.result) (replied c.new-replies.result) ≡ told_by [] [] =
    ap (λ sheets. told_by sheets (replied c.new-replies.result)) c.new-sheets.ensures ∙ ap (λ replies. told_by [] replies) c.new-replies.ensures in
    record {
      images = c.requires;
      done = [];
      left = refl;
      held = c.new-piece.ensures.items;
      goes =
          subst (λ (told : SinkLog). HandsOut Complete (CarriesOn opened [] c.in_ok-job.job) (under c.args.tag (told_by [] []) told)) (sym fresh)
          (HandsOut-opened c.in_ok-job.job c.args.tag (told_by [] []) c.in_ok-job.ensures);
      going = opened-going c.in_ok-job.job c.in_ok-job.ensures;
    }

pub loop-piece-preserved : goal.loop-piece-preserved
loop-piece-preserved c =
    let inv = c.loop-piece.invariant in
    let gives = c.in_ok-piece.ensures.ok in
    let more = bytes_left c.piece.new.self c.args.images.now in
    let piece = c.deref.result.now in
    let is : piece ≡ gives.piece = c.deref.ensures.value ∙ gives.appended ∙ ap (λ (held : List ℕ). held ++ gives.piece) inv.held in
    let goes = c.in_ok-feed.ensures.feeds in
    record {
      images = c.piece.ensures.images;
      done = inv.done ++ piece;
      left = inv.left ∙ ap (λ (rest : List ℕ). inv.done ++ rest) gives.next ∙ ap (λ (one : List ℕ). inv.done ++ (one ++ more)) (sym is) ∙ sym (append_assoc inv.done piece more);
      held = c.clear.ensures.items;
      goes =
          HandsOut-more inv.done piece (inv.done ++ piece) c.args.tag (Ok tt) c.loop-piece.job c.feed.new.self
          (told_by [] []) (told_by (deliveries c.loop-piece.sheets) (replied c.loop-piece.replies))
          (told_by (deliveries c.feed.new.sheets) (replied c.feed.new.replies)) refl inv.going inv.goes
          (fed c.loop-piece.job c.feed.new.self piece c.args.tag (Ok tt) _ _ inv.going goes);
      going = goes.is.1.going;
    }

pub returns-clause-ok : goal.returns-clause-ok
returns-clause-ok c =
    let inv = c.loop-piece.invariant in
    let gives = c.in_ok-piece.ensures.ok in
    let none = gives.none c.if-branch.false in
    let before : bytes_left c.loop-piece.writer c.args.images.now ≡ [] = none.0 in
    let all : bytes_left c.args.writer.now c.args.images.now ≡ inv.done = inv.left ∙ ap (λ (rest : List ℕ). inv.done ++ rest) before ∙ append-nil inv.done in
    delivers-of (bytes_left c.args.writer.now c.args.images.now) c.args.tag c.finish.new.self.machine (deliveries c.finish.new.sheets) (replied c.finish.new.replies)
    (Prints-end c.chain.ensures.prints inv.done (bytes_left c.args.writer.now c.args.images.now) c.args.tag
    c.loop-piece.job c.finish.new.self (told_by [] []) (told_by (deliveries c.loop-piece.sheets) (replied c.loop-piece.replies))
    (told_by (deliveries c.finish.new.sheets) (replied c.finish.new.replies)) all inv.goes
    (rw c.in_ok-finish.was at c.finish.ensures.finishes))
