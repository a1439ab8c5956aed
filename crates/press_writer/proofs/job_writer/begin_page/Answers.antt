use Rattle.std.proofs.Common.{◌≡◌, ◌++◌, slice_index_or, sym, ap, ◌∙◌, arith}
use Rattle.press_writer.specs.Job.{page}
use Rattle.press_writer.specs.Left.{rest_of_page}
use Rattle.press_writer.specs.Picture.{page_start}
use Rattle.press_writer.specs.Sequences.{written}
use Rattle.press_writer.specs.Wanted.{image_of}
use Rattle.press_rows.specs.declared.compression.Method.TheVariants.{Unencoded}
use Rattle.press_writer.proofs.ImageLemmas.{image_of-within}
use Rattle.press_writer.proofs.LeftLemmas.{appends_some, page_begun}
use Rattle.press_writer.proofs.job_writer.begin_page.Goals as goal

pub returns-clause-appends : goal.returns-clause-appends
returns-clause-appends c =
    let images = c.args.images.now in
    let number = c.args.number in
    let image : image_of images number ≡ c.index-images-from.result =
    image_of-within images number c.index-images-from.result c.requires (c.index-images-from.is ∙ ap (λ i. slice_index_or images i c.index-images-from.result) c.from.ensures) in
    appends_some 3 (page (image_of images number)) (page_start (image_of images number))
    (rest_of_page (image_of images number) (record { page = number; line = 0; method = Unencoded })) c.args.out.now.items _
    (omega arith) (page_begun (image_of images number) number) (omega arith)
    (c.in_ok-push_start.ensures ∙ (λ j. c.args.out.now.items ++ written (page_start (sym image j))))
