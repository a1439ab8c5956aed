use Rattle.std.proofs.Common.{Some, ap, sym}
use Rattle.press_memory.proofs.Edges.{first, last}
use Rattle.press_memory.proofs.streams.sums_behind.Goals as goal

pub returns : goal.returns
returns c =
    record {
      status = c.print_sums-status.result;
      before = first _ _ _ _;
      after = last _ _ _ _ _ _ _ _;
      had = ap (λ device. Some device.now) c.new-reader.ensures.device;
      empty = ap Some c.in_memory-devices.ensures.out;
      wrote = ap (λ device. Some device.items) (sym c.into_inner.ensures);
      ends = c.fault_after.ensures;
      holds = c.print_sums-status.ensures.printed;
    }
