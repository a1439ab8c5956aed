use Rattle.std.proofs.Common.{List, subst, sym}
use Rattle.press_bits.specs.Page.{Page}
use Rattle.press_memory.specs.Written.{StandBefore}
use Rattle.press_memory.proofs.JobLemmas.{stand-more}
use Rattle.press_memory.proofs.job.images_in.Goals as goal

pub loop-preserved : goal.loop-preserved
loop-preserved c =
    let page = c.in-Ok.ensures.page in
    subst (λ (images : List Page). StandBefore c.args.files.now c.read_pbm.new.input.now images) (sym c.in-Ok-push.ensures.items)
    (stand-more c.args.files.now c.loop.rest.now c.read_pbm.new.input.now c.loop.images.items c.in-Ok.image page.0 c.loop.invariant page.1 page.2)
