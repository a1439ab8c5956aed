use Rattle.std.proofs.Common.{take, ap, arith}
use Rattle.press_devices.specs.declared.reading.ReadCount.{ReadCount}
use Rattle.press_units.proofs.ExitLemmas.{exit-is}
use Rattle.press_forms.proofs.DisassemblyLemmas.{none_read, piece_listed, piece_not_held, piece_stopped}
use Rattle.press_forms.proofs.disassembly.list_pieces.Goals as goal

pub loop-scanner-init : goal.loop-scanner-init
loop-scanner-init g c = record {
  lists =
      none_read (g.R.ReadDevice.remaining c.args.reader.now) (g.W.WriteDevice.contents c.args.out.now) c.new-scanner.result
      c.new-scanner.ensures.mode c.new-scanner.ensures.bytes c.new-scanner.ensures.ended;
  told = omega (arith, ap (λ (count : ReadCount). count.reads) c.none-count.ensures);
}

pub returns-in_err-feed-clause-err : goal.returns-in_err-feed-clause-err
returns-in_err-feed-clause-err g c =
    rw (exit-is c.from_residual-in_err-feed.ensures.1)
    (piece_not_held _ _ _ _ c.loop-scanner.scanner c.loop-scanner.invariant.lists _ (take c.in_ok-length.length c.read_next.new.piece)
    c.in_ok-length.ensures.piece.1)

pub returns-in_err-list_commands-clause-err : goal.returns-in_err-list_commands-clause-err
returns-in_err-list_commands-clause-err g c =
    let fed = c.in_ok-feed.ensures in
    rw (exit-is c.from_residual-in_err-list_commands.ensures.1)
    (piece_stopped _ _ _ _ c.loop-scanner.scanner c.loop-scanner.invariant.lists _ (take c.in_ok-length.length c.read_next.new.piece)
    c.in_ok-length.ensures.piece.1 c.feed.new.self fed.mode fed.ok fed.ended _ _ c.in_err-list_commands.ensures.err)

pub loop-scanner-preserved : goal.loop-scanner-preserved
loop-scanner-preserved g c =
    let fed = c.in_ok-feed.ensures in
    record {
      lists =
          piece_listed _ _ _ _ c.loop-scanner.scanner c.loop-scanner.invariant.lists _ (take c.in_ok-length.length c.read_next.new.piece)
          c.in_ok-length.ensures.piece.1 c.feed.new.self fed.mode fed.ok fed.ended c.list_commands.new.scanner _ c.in_ok-list_commands.ensures.ok;
      told = c.read_next.ensures.told c.loop-scanner.invariant.told;
    }
