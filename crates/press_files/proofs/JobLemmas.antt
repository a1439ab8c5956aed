-- Images, one input after another.
use Rattle.std.proofs.Common.{Bor, ◌≡◌, ◌∙◌, ◌<◌, ℕ, zero, suc, ◌+◌, List, [], ◌∷◌, ◌++◌, length, map, take, get_or, Option}
use Rattle.std.proofs.Common.{ap, sym, subst, inl, inr, arith}
use Rattle.std.proofs.lemmas.List.{take_more, map-append}
use Rattle.press_bits.specs.Page.{Page}
use Rattle.press_writer.specs.declared.fault.WriterError.{WriterError}
use Rattle.press_files.specs.Causes.{Failures}
use Rattle.press_files.specs.Edge.{lent_texts}
use Rattle.press_files.specs.NamedInputs.{NamedInput}
use Rattle.press_files.specs.declared.inputs.InputError.{InputError}
use Rattle.press_files.specs.declared.inputs.InputError.TheVariants as input_fault
use Rattle.press_files.specs.JobCauses.{JobCause, SomeMissing}
use Rattle.press_ticket.specs.Ticket.{JobTicket}
use Rattle.press_files.specs.Jobs.{HasImage, HaveImages, ImageRefused, ImagesRefused, LacksAnImage, TicketRead}
use Rattle.press_files.specs.declared.jobs.JobFileError.{JobFileError}
use Rattle.press_files.specs.declared.jobs.JobFileError.TheVariants as fault

-- one input more
images-push : (inputs : List NamedInput) (images : List Page) (input : NamedInput) (image : Page) → HaveImages inputs images
    → HasImage input.bytes image → HaveImages (inputs ++ input ∷ []) (images ++ image ∷ [])
images-push [] [] input image so_far next = (next, tt)
images-push (first ∷ inputs) (its ∷ images) input image so_far next = (so_far.0, images-push inputs images input image so_far.1 next)
images-push [] (its ∷ images) input image so_far next = absurd so_far
images-push (first ∷ inputs) [] input image so_far next = absurd so_far

-- the inputs of the texts of names
abbrev pub of_texts : (input : List ℕ → NamedInput) → List (Bor (List ℕ)) → List NamedInput
of_texts input names = map input (lent_texts names)

-- the front of a list of names, one longer
pub images-more : (input : List ℕ → NamedInput) (names : List (Bor (List ℕ))) (i : ℕ) (other : Bor (List ℕ)) (images : List Page) (image : Page)
    → i < length names → HaveImages (of_texts input (take i names)) images → HasImage (input (get_or names i other).now).bytes image
    → HaveImages (of_texts input (take (i + 1) names)) (images ++ image ∷ [])
images-more input names i other images image inside so_far next =
    let name = get_or names i other in
    let now : Bor (List ℕ) → List ℕ = λ one. one.now in
    let more : of_texts input (take (i + 1) names) ≡ of_texts input (take i names) ++ input name.now ∷ [] =
    ap (of_texts input) (take_more names i other inside) ∙ ap (map input) (map-append now (take i names) (name ∷ []))
    ∙ map-append input (map now (take i names)) (name.now ∷ []) in
    subst (λ (inputs : List NamedInput). HaveImages inputs (images ++ image ∷ [])) (sym more)
    (images-push _ images (input name.now) image so_far next)

-- the input of a name has no image, and those before it have some
pub lacks-an-image : (input : List ℕ → NamedInput) (names : List (Bor (List ℕ))) (i : ℕ) (other : Bor (List ℕ)) (images : List Page) (why : JobFileError)
    → i < length names → HaveImages (of_texts input (take i names)) images → ImageRefused (input (get_or names i other).now) why
    → LacksAnImage (of_texts input names) why
lacks-an-image input [] i other images why inside so_far refused = absurd (omega (arith, inside))
lacks-an-image input (name ∷ names) zero other images why inside so_far refused = inl refused
lacks-an-image input (name ∷ names) (suc i) other [] why inside so_far refused = absurd so_far
lacks-an-image input (name ∷ names) (suc i) other (image ∷ images) why inside so_far refused =
    inr (image, so_far.0, lacks-an-image input names i other images why (omega (arith, inside)) so_far.1 refused)

-- an input that is not opened
pub unopened : (input : NamedInput) (error : InputError) → (error ≡ input_fault.ReadFault → input.IsMissing)
    → ImageRefused input (fault.Input error)
unopened input error missing = grind arith

-- ---- what a device makes of a job

-- none of these inputs can be opened, or one behind those that have images
some-missing : (inputs : List NamedInput) → LacksAnImage inputs (fault.Input input_fault.ReadFault) → SomeMissing inputs
some-missing [] lacks = absurd lacks
some-missing (input ∷ inputs) (inl missing) = inl missing
some-missing (input ∷ inputs) (inr (image, has, lacks)) = inr (some-missing inputs lacks)

-- an input is not refused as a job is
no-writer : (inputs : List NamedInput) (error : WriterError) → LacksAnImage inputs (fault.Writer error) → ⊥
no-writer [] error lacks = lacks
no-writer (input ∷ inputs) error (inl refused) = refused
no-writer (input ∷ inputs) error (inr (image, has, lacks)) = no-writer inputs error lacks

-- inputs that gave no images
pub images-cause : (fails : Failures) (had left : Option (List ℕ)) (inputs : List NamedInput) (why : JobFileError) (ticket : JobTicket)
    → TicketRead had left ticket → ImagesRefused inputs why → JobCause fails had left inputs why
images-cause fails had left inputs why ticket read refused = grind (arith, some-missing, no-writer)
