use Rattle.std.proofs.Common.{◌+◌, ◌∙◌, length, refl, ap, arith}
use Rattle.std.proofs.lemmas.Slice.{between_to_end}
use Rattle.byteorder.specs.Endian.{big_number}
use Rattle.press_cmd.proofs.RecordLemmas.{first-record}
use Rattle.press_cmd.proofs.records.first_count.Goals as goal

pub read_u32-requires : goal.read_u32-requires
read_u32-requires c =
    let first = first-record c.args.bytes.now c.requires c.is_empty.result c.is_empty.ensures c.if-is_empty.false _ refl in
    grind (arith, first.head, first.within)

pub returns : goal.returns
returns c records =
    ap (λ n. 5 + n) (c.read_u32.ensures ∙ ap (big_number 4) (between_to_end c.args.bytes.now 1 (length c.args.bytes.now) (omega arith)))
    ∙ (first-record c.args.bytes.now records c.is_empty.result c.is_empty.ensures c.if-is_empty.false _ refl).counted
