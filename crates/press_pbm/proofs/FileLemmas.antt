-- What a header and the rows behind it make.
use Rattle.std.proofs.Common.{◌≡◌, ℕ, ◌-◌, ◌*◌, ◌+◌, ◌<◌, ◌≤◌, ◌⊎◌, min, Bool, true, false, List, ◌++◌, length, replicate, Option, rules}
use Rattle.std.proofs.Common.{Result, Ok, IsErrOf, refl, ap, ◌∙◌, arith, subst, inr, length-append, append_assoc}
use Rattle.std.specs.Io.KnownBytes.{Consumes}
use Rattle.std.proofs.KnownBytes.{Consumes-trans}
use Rattle.std.proofs.Math.Nat.{mul-le-mul_right}
use Rattle.std.proofs.lemmas.Bool.Decides.{nat_tests}
use Rattle.std.proofs.lemmas.List.{length-replicate}
use Rattle.press_bits.specs.Page.{Page, blank, is_page_size}
use Rattle.press_bits.specs.Lines.{bytes_per_line}
use Rattle.press_bits.specs.DotRows.{page_of_rows}
use Rattle.press_bits.proofs.PageLemmas.{width-blank, height-blank}
use Rattle.press_bits.specs.declared.fault.BlankError.{BlankError}
use Rattle.press_bits.specs.declared.fault.BlankError.TheVariants as blanks
use Rattle.press_devices.specs.Reading.{most_reads, no_reads}
use Rattle.press_devices.specs.declared.reading.ReadCount.{ReadCount}
use Rattle.press_pbm.specs.Header.{header_spelling, width_of, height_of}
use Rattle.press_pbm.specs.File.{IsFile, Refused}
use Rattle.press_pbm.specs.Reading.{past_longest, ReadHeader, RowsStop}
use Rattle.press_pbm.specs.declared.fault.ReadPbmError.{ReadPbmError}
use Rattle.press_pbm.specs.declared.fault.ReadPbmError.TheVariants.{NotPbm, BadSize, Truncated, ReadFault, NoMemory}

pub not_cut : (m n : ℕ) → is_page_size m n ≡ true → (min m past_longest ≡ m) × (min n past_longest ≡ n)
not_cut m n is = (grind (arith, nat_tests), grind (arith, nat_tests))

-- where a blank page was made, the size is a page's
pub made : (width height : ℕ) (page : Page) (result : Result Page BlankError) → result ≡ Ok page
    → (is_page_size width height ≡ false → IsErrOf result blanks.BadSize) → is_page_size width height ≡ true
made width height page result is refuses = search rules

-- the sizes of a header whose page was made
sizes : (width height : ℕ) (had middle : Option (List ℕ)) (header : ReadHeader (width, height) had middle) → is_page_size width height ≡ true →
    (is_page_size (width_of header.parts) (height_of header.parts) ≡ true) × (width ≡ width_of header.parts) × (height ≡ height_of header.parts)
sizes width height had middle header is = search rules

-- a header and its rows are a file
pub file_read : (width height : ℕ) (had middle left : Option (List ℕ)) (old page : Page) (rows : List ℕ)
    → ReadHeader (width, height) had middle → is_page_size width height ≡ true → old ≡ blank width height →
    length rows ≡ old.height * bytes_per_line old.width → Consumes middle left rows → page ≡ page_of_rows old.width old.height rows → (file : List ℕ) × IsFile page file × Consumes had left file
file_read width height had middle left old page rows header is white long reads shown =
    let (size, wide, high) = sizes width height had middle header is in
    let old_wide : old.width ≡ width_of header.parts = ap (λ (p : Page). p.width) white ∙ width-blank width height ∙ wide in
    let old_high : old.height ≡ height_of header.parts = ap (λ (p : Page). p.height) white ∙ height-blank width height ∙ high in (
      header_spelling header.parts ++ rows,
      record {
        parts = header.parts;
        header = header.header;
        rows = rows;
        spelled = refl;
        size = size;
        long = long ∙ (λ i. old_high i * bytes_per_line (old_wide i));
        shows = shown ∙ (λ i. page_of_rows (old_wide i) (old_high i) rows);
      },
      Consumes-trans had middle left (header_spelling header.parts) rows header.read reads,
    )

-- the input ended within the rows, or memory ran out
pub rows_stopped : (error : ReadPbmError) (width height : ℕ) (had middle left : Option (List ℕ)) (old : Page)
    → ReadHeader (width, height) had middle → is_page_size width height ≡ true → old ≡ blank width height →
    RowsStop error (old.height * bytes_per_line old.width) middle left → Refused error had left
rows_stopped Truncated width height had middle left old header is white (rows, few, reads, ends) =
    let (size, wide, high) = sizes width height had middle header is in
    let old_wide : old.width ≡ width_of header.parts = ap (λ (p : Page). p.width) white ∙ width-blank width height ∙ wide in
    let old_high : old.height ≡ height_of header.parts = ap (λ (p : Page). p.height) white ∙ height-blank width height ∙ high in
    let count : ℕ = height_of header.parts * bytes_per_line (width_of header.parts) in
    let short : length rows < count = subst (λ n. length rows < n) (λ i. old_high i * bytes_per_line (old_wide i)) few in
    let more : List ℕ = replicate (count - length rows) 0 in
    let long : length more ≡ count - length rows = length-replicate (count - length rows) 0 in
    let page : Page = page_of_rows (width_of header.parts) (height_of header.parts) (rows ++ more) in (
      header_spelling header.parts ++ rows,
      Consumes-trans had middle left (header_spelling header.parts) rows header.read reads,
      ends,
      inr (
        more,
        omega arith,
        page,
        record {
          parts = header.parts;
          header = header.header;
          rows = rows ++ more;
          spelled = append_assoc (header_spelling header.parts) rows more;
          size = size;
          long = length-append rows more ∙ omega arith;
          shows = refl;
        },
      ),
    )
rows_stopped ReadFault width height had middle left old header is white stopped = tt
rows_stopped NotPbm width height had middle left old header is white stopped = absurd stopped
rows_stopped BadSize width height had middle left old header is white stopped = absurd stopped
rows_stopped NoMemory width height had middle left old header is white stopped = tt

-- a file has fewer bytes than an input has reads
pub never_most : {E F : Type 0} (width height : ℕ) (page : Page) (start count : ReadCount)
    → start ≡ no_reads → is_page_size width height ≡ true → page ≡ blank width height →
    (E → F) → E ⊎ (count.reads ≤ start.reads + 65536) → F ⊎ (most_reads ≤ count.reads + page.height * bytes_per_line page.width) → F
never_most width height page start count none size white stays h5 most = grind (arith, mul-le-mul_right, width-blank, height-blank)
