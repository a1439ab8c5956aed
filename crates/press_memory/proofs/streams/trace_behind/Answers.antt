use Rattle.std.proofs.Common.{◌∙◌, List, ℕ, Option, Some, Bor, ap, sym, false}
use Rattle.std.specs.Io.Chain.{chain_remaining}
use Rattle.press_memory.proofs.Edges.{first, last}
use Rattle.press_memory.proofs.streams.trace_behind.Goals as goal

pub returns : goal.returns
returns c =
    let bytes : Bor (List ℕ) → Option (List ℕ) = λ front. Some front.now in
    record {
      status = c.tell_trace-status.result;
      before = first _ _ _ _;
      after = last _ _ _ _ false _ _ _;
      had = ap (chain_remaining bytes bytes) c.new-reader.ensures.device ∙ c.chain.ensures.bytes;
      empty = ap Some c.in_memory-devices.ensures.out;
      wrote = ap (λ device. Some device.items) (sym c.into_inner.ensures);
      ends = c.fault_after.ensures;
      holds = c.tell_trace-status.ensures.traces;
    }
