use Rattle.std.proofs.Common.{◌≡◌, ◌≤◌, ◌+◌, ◌-◌, drop}
use Rattle.press_rows.specs.Encoding.{same_places}
use Rattle.press_rows.proofs.encoder.same_between.Given as goal

abbrev pub invariant-loop-place : goal.invariant-loop-place
invariant-loop-place l = record {
  count : l.count + same_places (drop l.place l.row) (drop l.place l.other) ≡ same_places (drop l.fn.start l.row) (drop l.fn.start l.other);
  few : l.count ≤ l.place - l.fn.start;
}
