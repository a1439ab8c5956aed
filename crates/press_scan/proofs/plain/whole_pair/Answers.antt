use Rattle.std.proofs.Common.{◌≡◌, ◌∙◌, ◌∷◌, Some, take, drop, refl, sym, arith}
use Rattle.press_cmd.specs.Carried.{data_count}
use Rattle.press_scan.specs.Modes.{mode_of}
use Rattle.press_scan.proofs.PairLaws.{pair_at, total_within}
use Rattle.press_scan.proofs.plain.whole_pair.Goals as goal

pub returns : goal.returns
returns c =
    let sequence = c.args.sequence in
    let bytes = c.args.bytes.now in
    let place = c.field_length-length.result in
    let field = c.field_length-length.ensures in
    let byte = c.in_ok-byte.byte.now in
    let ahead = c.in_ok-byte.ahead.now in
    let back : drop place bytes ≡ byte ∷ ahead = sym c.split_at.ensures.back ∙ c.in_ok-byte.ensures.cases.0 in
    let end = c.in_ok-end.end in
    let next = mode_of c.in_ok-end.mode in
    let count = c.data_count-count.result in
    let counted : count ≡ data_count sequence.character (Some sequence.group) (take place bytes) end = grind arith in
    record {
      within = total_within sequence.character sequence.group bytes place field.within field.field byte ahead back end next c.in_ok-end.ensures count counted _ refl
          (omega (arith, c.if-ahead-count.false));
      field = take place bytes;
      end = end;
      payload = take count ahead;
      command = grind arith;
      is_pair = pair_at sequence.character sequence.group bytes place field.within field.field byte ahead back end next c.in_ok-end.ensures count counted _ refl
          (omega (arith, c.if-ahead-count.false));
    }
