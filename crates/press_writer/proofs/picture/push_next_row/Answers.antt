use Rattle.std.proofs.Common.{◌++◌, ◌≤◌, ◌<◌, [], ◌∷◌, sym, ap, ◌∙◌, subst, append_assoc, arith, ◌+◌}
use Rattle.press_cmd.specs.Token.{bytes_of}
use Rattle.press_rows.specs.declared.compression.Method.{Method}
use Rattle.press_writer.specs.declared.sequence.Sequence.TheVariants.{EndRaster}
use Rattle.press_writer.specs.Inside.{AppendsSome}
use Rattle.press_writer.specs.Job.{form_feed_command}
use Rattle.press_writer.specs.Left.{rest_of_page}
use Rattle.press_writer.specs.Picture.{left_out, row_commands, row_before}
use Rattle.press_writer.specs.Sequences.{command, written}
use Rattle.press_pbm.specs.Spelling.{line_bytes}
use Rattle.press_writer.proofs.LeftLemmas.{appends_some, row_commands_from, page_behind, row_of_page, end_of_page, row_few, row_some, written-append}
use Rattle.press_writer.proofs.picture.push_next_row.Goals as goal

pub returns-then-line-height-clause-appends : goal.returns-then-line-height-clause-appends
returns-then-line-height-clause-appends c =
    let image = c.args.image.now in
    let before = c.args.out.now.items in
    let past = subst (λ n. n ≤ c.first_black-line.result) c.height.ensures.height c.if-line-height.true in
    let appended = c.in_ok-push.ensures.items ∙ ap (λ bytes. bytes ++ 12 ∷ []) c.in_ok-push_command.ensures ∙ append_assoc before (bytes_of (command EndRaster 0)) (12 ∷ []) in
    appends_some 3 (rest_of_page image c.args.left) (command EndRaster 0 ∷ form_feed_command ∷ []) [] before _
    (omega arith) (end_of_page image c.args.left c.first_black-line.result c.first_black-line.ensures.skips past) (omega arith) appended

pub returns-clause-appends : goal.returns-clause-appends
returns-clause-appends c =
    let image = c.args.image.now in
    let left = c.args.left in
    let y = c.first_black-line.result in
    let before = c.args.out.now.items in
    let row = row_commands left.method (row_before image y) (line_bytes image y) in
    let below = subst (λ n. y < n) c.height.ensures.height c.if-line-height.false in
    let appended = c.in_ok-method.ensures.ok ∙ ap (λ bytes. bytes ++ written row) c.in_ok-push_left_out.ensures
    ∙ append_assoc before (written (left_out _)) (written row)
    ∙ ap (λ bytes. before ++ bytes) (sym (written-append (left_out _) row)) in
    subst (λ (method : Method).
    AppendsSome 3 (rest_of_page image left) (rest_of_page image (record { page = left.page; line = y + 1; method = method }))
    before c.push_line.new.out.items)
    (sym c.in_ok-method.ensures.method)
    (appends_some 3 (rest_of_page image left) (row_commands_from image left y) (rest_of_page image (page_behind image left y)) before _
    (row_few image left y) (row_of_page image left y c.first_black-line.ensures.skips below (c.first_black-line.ensures.black below)) (row_some image left y) appended)
