use Rattle.std.proofs.Common.{[], sym, subst, append-nil, arith}
use Rattle.press_writer.specs.Inside.{AppendsSome}
use Rattle.press_writer.specs.Job.{head_of, commands_of_part}
use Rattle.press_writer.proofs.LeftLemmas.{appends_some, head_some}
use Rattle.press_writer.proofs.job_writer.begin_part.Goals as goal

pub returns-in_ok-push_head-in-Head-clause-appends : goal.returns-in_ok-push_head-in-Head-clause-appends
returns-in_ok-push_head-in-Head-clause-appends c =
    let medium = c.args.medium in
    let before = c.args.out.now.items in
    subst (λ part. AppendsSome 8 (commands_of_part medium c.args.images.now part) [] before c.push_head.new.out.items) (sym c.in-Head.is)
    (appends_some 8 (head_of medium) (head_of medium) [] before _ (omega arith) (sym (append-nil (head_of medium))) (head_some medium) c.in_ok-push_head-in-Head.ensures)
