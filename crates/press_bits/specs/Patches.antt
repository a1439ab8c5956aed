-- Where a page differs from another, and patches: what stands there in the later one.
use Rattle.std.specs.Prelude.{◌≡◌, ◌≢◌, ◌⊎◌, ℕ, ◌-◌, ◌*◌, ◌<◌, ◌≤◌, Bool, true, false, ◌&&◌, nat_le, nat_lt, if◌then◌else◌, List, [], ◌∷◌, slice_index_or, take, drop}
use Rattle.press_bits.specs.Page.{Page, HasNoDotOutside, black_at, page_where}
use Rattle.press_bits.specs.Mark.{row_dot}
use Rattle.press_bits.specs.Lines.{bytes_per_line, IsPageLine}
use Rattle.press_bits.specs.declared.region.Region.{Region}

-- Whether the dot at column x of line y lies in the region.
abbrev pub is_in : Region → (x y : ℕ) → Bool
is_in region x y =
    (nat_le region.top y && nat_lt y region.bottom) && (nat_le (8 * region.left) x && nat_lt x (8 * region.right))

-- The region has a line and a byte of it, and lies on the page.
pub record LiesOn (page : Page) (region : Region) : Type 0 where
  pub some_lines : region.top < region.bottom
  pub lines : region.bottom ≤ page.height
  pub some_bytes : region.left < region.right
  pub bytes : region.right ≤ bytes_per_line page.width

-- Both pages have one size, and agree outside of the region.
pub record DifferIn (before after : Page) (region : Region) : Type 0 where
  pub width : after.width ≡ before.width
  pub height : after.height ≡ before.height
  pub outside : (x y : ℕ) → is_in region x y ≡ false → black_at after x y ≡ black_at before x y

-- The pages differ, and in this region of theirs alone.
pub record ChangedIn (before after : Page) (region : Region) : Type 0 where
  pub differ : DifferIn before after region
  pub lies : LiesOn before region
  pub real : before ≢ after

-- The pages agree above a line, and from another one on.
abbrev pub AgreeBeside : (first end : ℕ) → (before after : Page) → Type 0
AgreeBeside first end before after = (x y : ℕ) → x < before.width → y < before.height → (y < first) ⊎ (end ≤ y)
    → black_at after x y ≡ black_at before x y

-- A patch: a region, and a row of bytes for each of its lines, from the top.
pub record Patch : Type 0 where
  pub region : Region
  pub rows : List (List ℕ)

-- the dot of a patch that lies at column x of line y of its page
abbrev pub patch_dot : Patch → (x y : ℕ) → Bool
patch_dot patch x y =
    row_dot (slice_index_or patch.rows (y - patch.region.top) []) (x - 8 * patch.region.left)

-- Outside of the patch's region no dot changed, and inside stand the dots of the page after.
pub record Patched (before : Page) (patch : Patch) (after : Page) : Type 0 where
  pub differ : DifferIn before after patch.region
  pub inside : (x y : ℕ) → x < after.width → y < after.height → is_in patch.region x y ≡ true
      → black_at after x y ≡ patch_dot patch x y
  pub whole : HasNoDotOutside after

-- The rows are the bytes of the region's lines, from the top.
pub record RowsOf (page : Page) (region : Region) (rows : List (List ℕ)) : Type 0 where
  pub each : (y : ℕ) → region.top ≤ y → y < region.bottom
      → (line : List ℕ) × IsPageLine page y line × (slice_index_or rows (y - region.top) [] ≡ take (region.right - region.left) (drop region.left line))

-- Where a page differs in a region alone, the region's rows are its patch.
abbrev pub RowsAreThePatch : Type 0
RowsAreThePatch = (before after : Page) (region : Region) (rows : List (List ℕ)) → DifferIn before after region
    → RowsOf after region rows → HasNoDotOutside after → Patched before (record { region = region; rows = rows }) after

-- the page with a patch laid over it
unfoldable pub laid_over : Page → Patch → Page
laid_over page patch = page_where page.width page.height
    (λ x y. if is_in patch.region x y then patch_dot patch x y else black_at page x y)

-- with patches laid over it one after another
abbrev pub all_laid_over : Page → List Patch → Page
all_laid_over page [] = page
all_laid_over page (patch ∷ patches) = all_laid_over (laid_over page patch) patches

-- The page changed patch by patch.
abbrev pub PatchedBy : Page → List Patch → Page → Type 0
PatchedBy before [] after = before ≡ after
PatchedBy before (patch ∷ patches) after = (between : Page) × Patched before patch between × PatchedBy between patches after

-- A page with all its patches laid over it is the page after the last of them.
abbrev pub PatchesAreThePage : Type 0
PatchesAreThePage = (before after : Page) (patches : List Patch) → PatchedBy before patches after
    → all_laid_over before patches ≡ after
