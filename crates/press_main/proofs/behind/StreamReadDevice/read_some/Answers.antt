use Rattle.std.proofs.Common.{◌≡◌, ◌≤◌, ◌++◌, take, drop, length, ap, ◌∙◌, ◌-◌, arith}
use Rattle.std.proofs.lemmas.List.{take_rest, length-drop, length-append, length-take-le}
use borrow.Rule.Slice.PartMut.{put_mid}
use Rattle.press_main.proofs.BehindLemmas.{gives-behind, at_end-behind, end_put, either}
use Rattle.press_main.proofs.behind.StreamReadDevice.read_some.Goals as goal

pub returns-clause-bytes : goal.returns-clause-bytes
returns-clause-bytes g c =
    let n = c.min-before.result in
    let given = c.in_ok-given.given in
    let bytes = c.args.self.now.bytes.now in
    let piece = c.read_some.new.buffer in
    let left = g.R.ReadDevice.remaining c.read_some.new.self in
    let behind = take_rest bytes n in
    let within : n ≤ length bytes = omega (arith, c.min-before.ensures) in
    let inside : n ≤ length c.args.buffer.now = omega (arith, c.min-before.ensures) in
    let copied : c.copy_from_slice.new.self ≡ take n bytes = c.copy_from_slice.ensures.after in
    let held = ap (λ front. front ++ drop n (put_mid n (length c.args.buffer.now - n) c.args.buffer.now piece)) copied ∙ ap (λ back. take n bytes ++ back) (end_put n c.args.buffer.now piece inside) in
    let long : length piece ≡ length c.args.buffer.now - n =
    c.read_some.auto.buffer ∙ ap length (take_rest c.args.buffer.now n) ∙ length-drop n c.args.buffer.now in
    let whole = ap length held ∙ length-append (take n bytes) piece in
    let why = either n given bytes c.args.buffer.now piece c.min-before.ensures long c.in_ok-given.ensures.bound.0 in (
      gives-behind n given bytes _ _ piece _ left within behind held why c.in_ok-given.ensures.bytes.0,
      λ none some.
          at_end-behind n bytes _ left behind (omega (arith, c.min-before.ensures, none, some, whole, long, length-take-le n bytes within))
          (c.in_ok-given.ensures.bytes.1 (omega (arith, none)) (omega (arith, none, some, whole, long, length-take-le n bytes within))),
    )
