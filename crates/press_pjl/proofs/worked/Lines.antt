-- Worked lines of the job language, computed on the definitions.
use Rattle.std.proofs.Common.{◌≡◌, ℕ, List, [], ◌∷◌, ◌++◌, map, true, false, refl, codes}
use Rattle.std.specs.Fmt.{digits}
use Rattle.press_units.specs.declared.position.Resolution.TheVariants.{Dpi600}
use Rattle.press_page.specs.Environment.{factory}
use Rattle.press_page.specs.declared.media.PageSize.TheVariants.{A4}
use Rattle.press_page.specs.declared.media.Orientation.TheVariants.{Landscape}
use Rattle.press_pjl.specs.Variables.{entry_of, all_variables}
use Rattle.press_pjl.specs.Replies.{page_reply}
use Rattle.press_pjl.specs.Lines.{Done, effect, power_on_language, nothing, replies, sets_current, sets_default, switches, after_line}
use Rattle.press_pjl.specs.declared.effect.Facts.{Facts}
use Rattle.press_pjl.specs.declared.environment.PjlEnv.{PjlEnv}

-- twelve sheets in all, five in the job
abbrev facts : Facts
facts = record { total = 12; since_job = 5 }

-- an environment after SET COPIES=3
abbrev three : PjlEnv
three = record power_on_language { current = record factory { copies = 3 } }

abbrev done : (text : List ℕ) → Done
done text = after_line (text ++ 10 ∷ []) facts three

-- the factory values as they are told
factory_texts : map (λ variable. (entry_of variable).text factory) all_variables ≡ codes "1" ∷ codes "LETTER" ∷ codes "PORTRAIT" ∷ codes "OFF" ∷ codes "LONGEDGE" ∷ codes "300" ∷ []
unfolding digits
factory_texts = refl

-- lines without effect
bare : done (codes "@PJL") ≡ nothing three
bare = refl

comment : done (codes "@PJL COMMENT SET COPIES=2") ≡ nothing three
comment = refl

enter : done (codes "@PJL ENTER LANGUAGE=PCL") ≡ nothing three
enter = refl

no_white_space : done (codes "@PJLSET COPIES=2") ≡ nothing three
no_white_space = refl

no_mark : done (codes "@pjl SET COPIES=2") ≡ nothing three
no_mark = refl

another_word : done (codes "@PJL JOB=1") ≡ nothing three
another_word = refl

-- lines that change the environment
set : done (codes "@PJL set copies = 0042 \r") ≡ sets_current (record factory { copies = 42 }) three
set = refl

set_paper : done (codes "@PJL\tSet\t Paper\t=\ta4") ≡ sets_current (record factory { copies = 3; size = A4 }) three
set_paper = refl

default_orientation : done (codes "@PJL DEFAULT ORIENTATION=LANDSCAPE") ≡ sets_default (record factory { orientation = Landscape }) three
default_orientation = refl

too_many_copies : done (codes "@PJL SET COPIES=1000") ≡ nothing three
too_many_copies = refl

no_copies : done (codes "@PJL SET COPIES=0") ≡ nothing three
no_copies = refl

set_resolution : done (codes "@PJL SET Resolution = 600") ≡ sets_current (record factory { copies = 3; resolution = Dpi600 }) three
set_resolution = refl

default_resolution : done (codes "@PJL DEFAULT RESOLUTION=600") ≡ sets_default (record factory { resolution = Dpi600 }) three
default_resolution = refl

another_resolution : map done (codes "@PJL SET RESOLUTION=0300" ∷ codes "@PJL SET RESOLUTION=0600" ∷ codes "@PJL SET RESOLUTION=450" ∷ codes "@PJL SET RESOLUTION=1200" ∷ [])
    ≡ nothing three ∷ nothing three ∷ nothing three ∷ nothing three ∷ []
another_resolution = refl

job : done (codes "@PJL JOB NAME=\"x\"") ≡ (power_on_language, effect true true [])
job = refl

end_of_job : done (codes "@PJL EOJ") ≡ (power_on_language, effect true false [])
end_of_job = refl

initialize : done (codes "@PJL INITIALIZE ") ≡ (power_on_language, effect true false [])
initialize = refl

initialize_with_more : done (codes "@PJL INITIALIZE x") ≡ nothing three
initialize_with_more = refl

status_on : done (codes "@PJL USTATUS Page = On") ≡ switches true three
status_on = refl

another_status : done (codes "@PJL USTATUS JOB=ON") ≡ nothing three
another_status = refl

-- lines with a reply
inquire : done (codes "@PJL INQUIRE COPIES\r") ≡ replies (codes "@PJL INQUIRE COPIES\r\n3\r\n" ++ 12 ∷ []) three
unfolding digits
inquire = refl

inquire_default : done (codes "@PJL DINQUIRE copies") ≡ replies (codes "@PJL DINQUIRE COPIES\r\n1\r\n" ++ 12 ∷ []) three
unfolding digits
inquire_default = refl

-- after SET RESOLUTION=600 it is 600, and by default still 300
abbrev fine : PjlEnv
fine = record power_on_language { current = record factory { resolution = Dpi600 } }

inquire_resolution : after_line (codes "@PJL INQUIRE RESOLUTION" ++ 10 ∷ []) facts fine ≡ replies (codes "@PJL INQUIRE RESOLUTION\r\n600\r\n" ++ 12 ∷ []) fine
inquire_resolution = refl

inquire_default_resolution : after_line (codes "@PJL DINQUIRE RESOLUTION" ++ 10 ∷ []) facts fine ≡ replies (codes "@PJL DINQUIRE RESOLUTION\r\n300\r\n" ++ 12 ∷ []) fine
inquire_default_resolution = refl

-- RESET and INITIALIZE: the default, and the factory value
fine_by_default : after_line (codes "@PJL RESET" ++ 10 ∷ []) facts (record fine { default = record factory { resolution = Dpi600 } })
    ≡ (record fine { default = record factory { resolution = Dpi600 } }, effect true false [])
fine_by_default = refl

coarse_again : after_line (codes "@PJL INITIALIZE" ++ 10 ∷ []) facts fine ≡ (power_on_language, effect true false [])
coarse_again = refl

inquire_another : done (codes "@PJL INQUIRE Foo") ≡ replies (codes "@PJL INQUIRE FOO\r\n\"?\"\r\n" ++ 12 ∷ []) three
inquire_another = refl

inquire_nothing : done (codes "@PJL INQUIRE ") ≡ nothing three
inquire_nothing = refl

echo : done (codes "@PJL echo  Hello ") ≡ replies (codes "@PJL ECHO  Hello \r\n" ++ 12 ∷ []) three
echo = refl

echo_nothing : done (codes "@PJL ECHO") ≡ replies (codes "@PJL ECHO \r\n" ++ 12 ∷ []) three
echo_nothing = refl

id : done (codes "@PJL INFO ID") ≡ replies (codes "@PJL INFO ID\r\n\"DIGITAL PRESS\"\r\n" ++ 12 ∷ []) three
id = refl

page_count : done (codes "@PJL INFO PAGECOUNT") ≡ replies (codes "@PJL INFO PAGECOUNT\r\n12\r\n" ++ 12 ∷ []) three
unfolding digits
page_count = refl

-- the reply after a sheet
page : page_reply 1 ≡ codes "@PJL USTATUS PAGE\r\n1\r\n" ++ 12 ∷ []
unfolding digits
page = refl
