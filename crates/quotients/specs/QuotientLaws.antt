-- Laws of figures: when one is told, its parts, how many bytes it has, and when two are compared.
use Rattle.std.specs.Prelude.{◌≡◌, true, false, ◌&&◌, List, [], ◌∷◌, ℕ, ◌+◌, ◌*◌, ◌/◌, ◌%◌, ◌^◌, ◌≤◌, ◌<◌, length}
use Rattle.std.proofs.Math.Bool.{and-eq-true_iff}
use Rattle.std.proofs.Common.{append-nil, lt_of_le_of_lt, mul-le-mul, div-le_self, arith, lit<, length-append, ltb-true}
use Rattle.text.specs.Text.{bytes, decimal}
use Rattle.text.specs.DecimalLaws.{decimal-length}
use Rattle.text.specs.PartLaws.{in_row}
use Rattle.quotients.specs.Quotients.{is_small, is_figure, ten_thousandths, places_text, figure_text}

-- The parts of ten-thousandths as they are told.
abbrev pub places_parts : ℕ → List (List ℕ)
places_parts t =
    decimal (t / 10000) ∷ bytes "." ∷ decimal (t / 1000 % 10) ∷ decimal (t / 100 % 10) ∷ decimal (t / 10 % 10) ∷ decimal (t % 10) ∷ []

pub places_parts_lem : (t : ℕ) → places_text t ≡ in_row (places_parts t)
unfolding places_text
places_parts_lem t = rw append-nil

-- They take at most 16 bytes, where the whole part has at most 11 digits.
places-length : (t : ℕ) → t / 10000 < 10 ^ 11 → length (places_text t) ≤ 16
unfolding places_text
places-length t small =
    let whole = decimal-length 10 (t / 10000) small in
    let first = decimal-length 0 (t / 1000 % 10) (omega arith) in
    let second = decimal-length 0 (t / 100 % 10) (omega arith) in
    let third = decimal-length 0 (t / 10 % 10) (omega arith) in
    let fourth = decimal-length 0 (t % 10) (omega arith) in
    simp length-append (omega arith)

module _ (a b : ℕ) where
  -- A figure that is told is of small numbers, ..
  pub record Figure : Type 0 where
    pub some : 0 < b
    pub first : a < 2 ^ 32
    pub second : b < 2 ^ 32

  pub is_figure_lem : is_figure a b ≡ true → Figure
  is_figure_lem e =
      let both = (and-eq-true_iff _ _).0 e in
      let front = (and-eq-true_iff _ _).0 both.0 in
      record { some = ltb-true 0 b front.0; first = ltb-true a _ front.1; second = ltb-true b _ both.1 }

  -- .. and takes at most 16 bytes; ..
  pub figure-length : Figure → length (places_text (ten_thousandths a b)) ≤ 16
  figure-length f = places-length _ (omega (arith, div-le_self (20000 * a + b) (2 * b), f.first, f.second))

  pub figure_told : is_figure a b ≡ true → figure_text a b ≡ places_text (ten_thousandths a b)
  unfolding figure_text
  figure_told e = rw e

  -- .. of any other nothing is told.
  pub no_figure : is_figure a b ≡ false → figure_text a b ≡ []
  unfolding figure_text
  no_figure e = rw e

-- Figures that are compared are of small numbers, ..
pub record Small (a b c d : ℕ) : Type 0 where
  pub first : a < 2 ^ 32
  pub second : b < 2 ^ 32
  pub third : c < 2 ^ 32
  pub fourth : d < 2 ^ 32

pub all_small : (a b c d : ℕ) → (((is_small a && is_small b) && is_small c) && is_small d) ≡ true → Small a b c d
all_small a b c d e =
    let last = (and-eq-true_iff _ _).0 e in
    let more = (and-eq-true_iff _ _).0 last.0 in
    let front = (and-eq-true_iff _ _).0 more.0 in
    record {
      first = ltb-true a _ front.0;
      second = ltb-true b _ front.1;
      third = ltb-true c _ more.1;
      fourth = ltb-true d _ last.1;
    }

-- .. whose products fit.
pub product_fits : (a b : ℕ) → a < 2 ^ 32 → b < 2 ^ 32 → a * b < 2 ^ 64
product_fits a b l h =
    lt_of_le_of_lt (mul-le-mul {n₂ = 4294967295} {m₂ = 4294967295} (omega arith) (omega arith)) (lit< {m = 4294967295 * 4294967295} {n = 2 ^ 64} tt)
