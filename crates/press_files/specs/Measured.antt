-- What the listing tells of a side.
use Rattle.std.specs.Prelude.{Bool, true, false, Some, None}
use Rattle.sha2.specs.Sha256.{sha256}
use Rattle.press_pbm.specs.Spelling.{file_of}
use Rattle.press_bits.specs.Page.{Page, count_black}
use Rattle.press_files.specs.declared.measures.Measures.{Measures}

-- The measures of a page: width and height in dots, and how many dots are black.
abbrev pub measures_of : Page → Measures
measures_of page = record { width = page.width; height = page.height; black = count_black page; digest = None }

-- The same, with the SHA-256 (FIPS 180-4) of the P4 file that the page is written as, where sums are listed.
abbrev pub measures_by : (sums : Bool) → Page → Measures
measures_by false page = measures_of page
measures_by true page = record { width = page.width; height = page.height; black = count_black page; digest = Some (sha256 (file_of page)) }
