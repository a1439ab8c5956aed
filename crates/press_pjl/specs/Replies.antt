-- What the press replies (PJL Technical Reference Manual, the replies of status readback commands).
use Rattle.std.specs.Prelude.{ℕ, List, [], ◌∷◌, ◌++◌, Option, codes, decimal}
use Rattle.press_cmd.specs.Language.{raised}
use Rattle.press_pjl.specs.Names.{of_name}
use Rattle.press_pjl.specs.declared.effect.Facts.{Facts}
use Rattle.press_pjl.specs.declared.fact.Fact.{Fact}
use Rattle.press_pjl.specs.declared.fact.Fact.TheVariants as facts

-- a carriage return and a line feed; and what ends a reply: these and a form feed
abbrev pub line_end : List ℕ
line_end = 13 ∷ 10 ∷ []

abbrev pub reply_end : List ℕ
reply_end = 13 ∷ 10 ∷ 12 ∷ []

-- A reply of a value: `@PJL`, a space, the command, a space, the name in upper case, the end of a line; the value; and the
-- end of the reply.
abbrev pub reply_prefix : (command name : List ℕ) → List ℕ
reply_prefix command name = codes "@PJL " ++ command ++ codes " " ++ raised name ++ line_end

abbrev pub reply_of : (command name value : List ℕ) → List ℕ
reply_of command name value = reply_prefix command name ++ value ++ reply_end

-- the value of a name that is not known
abbrev pub unknown : List ℕ
unknown = codes "\"?\""

-- The reply to ECHO: its words as they stand.
abbrev pub echo_of : (words : List ℕ) → List ℕ
echo_of words = codes "@PJL ECHO " ++ words ++ reply_end

-- The reply after a sheet: how many there were since the job began.
abbrev pub page_reply : (since_job : ℕ) → List ℕ
page_reply since_job = reply_of (codes "USTATUS") (codes "PAGE") (decimal since_job)

-- What INFO tells of the press: what it is, and the count of all sheets (its spelling is this profile's).
abbrev pub fact_name : Fact → List ℕ
fact_name facts.Id = codes "ID"
fact_name facts.PageCount = codes "PAGECOUNT"

abbrev pub fact_text : Facts → Fact → List ℕ
fact_text known facts.Id = codes "\"DIGITAL PRESS\""
fact_text known facts.PageCount = decimal known.total

abbrev pub fact_named : (name : List ℕ) → Option Fact
fact_named name = of_name fact_name (facts.Id ∷ facts.PageCount ∷ []) name
