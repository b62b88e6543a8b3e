-- How much there is of one number for each of another: as a decimal with four places, and which of two such figures is the larger.
use Rattle.std.specs.Prelude.{Bool, false, cond, ◌&&◌, List, [], ◌++◌, ℕ, ◌+◌, ◌*◌, ◌/◌, ◌%◌, ◌^◌, ltb}
use Rattle.text.specs.Text.{bytes, decimal}

-- Numbers of which figures are worked out.
abbrev pub is_small : ℕ → Bool
is_small n = ltb n (2 ^ 32)

-- There is an a / b to tell: something to divide by, and both are small.
abbrev pub is_figure : ℕ → ℕ → Bool
is_figure a b = (ltb 0 b && is_small a) && is_small b

-- a / b in ten-thousandths, to the nearest; a half counts up.
abbrev pub ten_thousandths : ℕ → ℕ → ℕ
ten_thousandths a b = (20000 * a + b) / (2 * b)

-- Ten-thousandths as a decimal with four places.
unfoldable pub places_text : ℕ → List ℕ
places_text t =
    decimal (t / 10000)
    ++ (bytes "." ++ (decimal (t / 1000 % 10) ++ (decimal (t / 100 % 10) ++ (decimal (t / 10 % 10) ++ decimal (t % 10)))))

-- a / b with four places; nothing where there is none to tell.
unfoldable pub figure_text : ℕ → ℕ → List ℕ
figure_text a b = cond (is_figure a b) (places_text (ten_thousandths a b)) []

-- a / b is larger than c / d: by the whole numbers, not by the places that are told.
unfoldable pub is_larger : ℕ → ℕ → ℕ → ℕ → Bool
is_larger a b c d = cond (((is_small a && is_small b) && is_small c) && is_small d) (ltb (c * b) (a * d)) false
