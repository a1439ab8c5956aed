use Rattle.std.proofs.Common.{arith}
use Rattle.press_cmd.proofs.ReadParam.{ended}
use Rattle.press_cmd.proofs.storing.ended_param.Goals as goal

pub bounds-bytes-length : goal.bounds-bytes-length
bounds-bytes-length c = (ended c.args.character c.args.group c.args.bytes.now c.field_length-length.result c.field_length-length.ensures c.requires).within

pub overflow_add-result : goal.overflow_add-result
overflow_add-result c =
    omega (
      arith,
      c.field_length-length.type_inv,
      (ended c.args.character c.args.group c.args.bytes.now c.field_length-length.result c.field_length-length.ensures
          c.requires).within,
    )

pub slice_bounds-result-count : goal.slice_bounds-result-count
slice_bounds-result-count c = omega (arith, (ended c.args.character c.args.group c.args.bytes.now c.field_length-length.result c.field_length-length.ensures c.requires).within)

pub slice_bounds-result-start : goal.slice_bounds-result-start
slice_bounds-result-start c = omega (arith, (ended c.args.character c.args.group c.args.bytes.now c.field_length-length.result c.field_length-length.ensures c.requires).within)

pub invariant_of-result : goal.invariant_of-result
invariant_of-result c =
    let is = (ended c.args.character c.args.group c.args.bytes.now c.field_length-length.result c.field_length-length.ensures c.requires).parameter in
    record {
      character_class = is.character_class;
      group_class = is.group_class;
      value_field = is.value_field;
      end_class = is.end_class;
      count = is.count;
      no_exit = is.no_exit;
    }

pub returns : goal.returns
returns c = (ended c.args.character c.args.group c.args.bytes.now c.field_length-length.result c.field_length-length.ensures c.requires).is
