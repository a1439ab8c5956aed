-- Eight dots of a column.
use Rattle.std.proofs.Common.{◌≡◌, ℕ, ◌+◌, ◌*◌, ◌/◌, ◌%◌, ◌<◌, Bool, false, List, sym, arith}
use Rattle.press_bits.specs.Bands.{band_at, page_of_bands}
use Rattle.press_bits.specs.Lines.{bytes_per_line, eight_from}
use Rattle.press_bits.specs.Mark.{row_dot}
use Rattle.press_bits.specs.Page.{black_at}
use Rattle.press_bits.proofs.BandLemmas.{black_at-page_of_bands}

-- eight dots are those of other dots, where each is
pub eight_same : (f g : ℕ → Bool) (a b : ℕ) → ((j : ℕ) → j < 8 → f (a + j) ≡ g (b + j)) → eight_from f a ≡ eight_from g b
eight_same f g a b same = grind arith

-- eight lines from a multiple of eight on stand in one band
pub band_column : (w h : ℕ) (bands : List (List ℕ)) (x index : ℕ) → x < w → index < h / 8
    → eight_from (λ n. row_dot (band_at bands (index / 8)) (8 * (n * bytes_per_line w) + x)) (index % 8 * 8) ≡ eight_from (black_at (page_of_bands w h bands) x) (8 * index)
band_column w h bands x index within above =
    eight_same (λ n. row_dot (band_at bands (index / 8)) (8 * (n * bytes_per_line w) + x)) (black_at (page_of_bands w h bands) x) (index % 8 * 8) (8 * index)
    (λ j few. grind (arith, black_at-page_of_bands w h bands x (8 * index + j) within))

-- none of eight dots is black where none of them lies on the page
pub none_of_eight : (dots : ℕ → Bool) (first : ℕ) → ((j : ℕ) → j < 8 → dots (first + j) ≡ false) → eight_from (λ _. false) 0 ≡ eight_from dots first
none_of_eight dots first white = sym (eight_same dots (λ _. false) first 0 white)
