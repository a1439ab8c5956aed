use Rattle.std.proofs.Common.{◌≡◌, [], ◌+◌, ◌++◌, Ok, Err, refl, sym, ap, get_or, take, drop, arith}
use Rattle.std.specs.List.{flat_map}
use Rattle.std.proofs.lemmas.List.{take_all}
use Rattle.press_units.proofs.ExitLemmas.{exit-is}
use Rattle.press_sink.proofs.SendingLemmas.{Took-has_fault_room}
use Rattle.press_stream.specs.declared.calls.Call.TheVariants.{Push}
use Rattle.press_stream.specs.Calls.{bytes_of}
use Rattle.press_stream.specs.State.{opened}
use Rattle.press_stream.proofs.Carries.{same_fault}
use Rattle.press_stream.proofs.Faults.{no_read_fault}
use Rattle.press_stream.proofs.Going.{CarriesOn-to}
use Rattle.press_stream.proofs.ChainLemmas.{opened-going, pieces-next, HandsOut-opened, HandsOut-more, pieces-rest}
use Rattle.press_stream.proofs.ChainLemmas.{PrintedTo-before, Printed-stopped, Printed-run}
use Rattle.press_stream.proofs.ChainLemmas.{stops-handed, handed-read, run-means}
use Rattle.press_stream.proofs.calls.run_calls.Goals as goal

pub loop-call-init : goal.loop-call-init
loop-call-init g c = record {
  goes = HandsOut-opened c.args.job.now c.args.tag _ c.requires.opened;
  going = opened-going c.args.job.now c.requires.opened;
  has_fault_room = c.requires.has_fault_room;
}

pub loop-call-preserved : goal.loop-call-preserved
loop-call-preserved g c =
    let calls = c.args.calls.now in
    let i = c.loop-call.call-index in
    let first = Push (record { ref_ptr = (0, 0); now = [] }) in
    let more = c.in_ok-make.ensures.goes in
    let so_far = c.loop-call.invariant in
    record {
      goes = HandsOut-more (flat_map bytes_of (take i calls)) (bytes_of (get_or calls i first)) (flat_map bytes_of (take (i + 1) calls)) c.args.tag (Ok tt)
          c.loop-call.job c.make.new.job _ _ _ (pieces-next bytes_of calls i first c.loop-call-test.true) so_far.going so_far.goes more;
      going = c.in_ok-make.ensures.going;
      has_fault_room = Took-has_fault_room c.args.tag more.went _ _ more.took so_far.has_fault_room;
    }

pub returns-in_err-make-clause-prints : goal.returns-in_err-make-clause-prints
returns-in_err-make-clause-prints g c =
    let calls = c.args.calls.now in
    let i = c.loop-call.call-index in
    let first = Push (record { ref_ptr = (0, 0); now = [] }) in
    let call = get_or calls i first in
    let front = flat_map bytes_of (take i calls) in
    let so_far = c.loop-call.invariant in
    let same : front ++ bytes_of call ≡ front ++ bytes_of call = refl in
    rw (exit-is c.from_residual.ensures.1)
    (Printed-stopped (flat_map bytes_of calls) (g.R.ReadDevice.remaining c.args.reader.now) c.args.tag c.in_err-make.field-0.0 c.make.new.job.machine _ _
    (PrintedTo-before c.chain.ensures.prints (front ++ bytes_of call) (flat_map bytes_of (drop (i + 1) calls)) (flat_map bytes_of calls)
    c.args.tag c.in_err-make.field-0.0 c.make.new.job _ _ (pieces-rest bytes_of calls i first c.loop-call-test.true)
    (HandsOut-more front (bytes_of call) (front ++ bytes_of call) c.args.tag (Err c.in_err-make.field-0.0) c.loop-call.job c.make.new.job _ _ _
    same so_far.going so_far.goes c.in_err-make.ensures.goes)))

pub returns-clause-prints : goal.returns-clause-prints
returns-clause-prints g c =
    let calls = c.args.calls.now in
    let i = c.loop-call.call-index in
    Printed-run c.chain.ensures.prints (flat_map bytes_of (take i calls)) (flat_map bytes_of calls) (g.R.ReadDevice.remaining c.args.reader.now)
    (g.R.ReadDevice.remaining c.run.new.reader) c.args.tag c.run.result c.loop-call.job c.run.new.self _ _ _
    (sym (ap (flat_map bytes_of) (take_all i calls c.loop-call-test.false))) c.loop-call.invariant.going c.loop-call.invariant.goes c.run.ensures.runs

pub returns-clause-means : goal.returns-clause-means
returns-clause-means g c = grind (arith, run-means, returns-clause-prints)

pub returns-in_err-make-clause-cause : goal.returns-in_err-make-clause-cause
returns-in_err-make-clause-cause g c = grind (arith, exit-is, no_read_fault, same_fault)

pub returns-in_err-make-clause-listed : goal.returns-in_err-make-clause-listed
returns-in_err-make-clause-listed g c =
    let calls = c.args.calls.now in
    let i = c.loop-call.call-index in
    let call = get_or calls i (Push (record { ref_ptr = (0, 0); now = [] })) in
    let so_far = c.loop-call.invariant in
    let running = CarriesOn-to opened c.loop-call.job (flat_map bytes_of (take i calls)) so_far.goes.went so_far.goes.is in
    let goes = c.in_err-make.ensures.goes in
    rw (exit-is c.from_residual.ensures.1)
    (handed-read c.in_err-make.field-0.0
    (stops-handed c.loop-call.job c.make.new.job (bytes_of call) c.in_err-make.field-0.0 goes.went running so_far.going goes.is))
