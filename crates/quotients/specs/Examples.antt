-- Worked examples of the definitions: the long-run figures of rows 0 and 1 as the source prints them, and what is told where there is no figure.
use Rattle.std.specs.Prelude.{◌≡◌, refl, true, false, []}
use Rattle.text.specs.Text.{bytes, decimal}
use Rattle.quotients.specs.Quotients.{places_text, figure_text, is_larger}

pub record Examples : Type 0 where
  pub exact : figure_text 27 15 ≡ bytes "1.8000"
  pub rounded_up : figure_text 50 27 ≡ bytes "1.8519"
  pub rounded_down : figure_text 1 3 ≡ bytes "0.3333"
  pub half : figure_text 1 20000 ≡ bytes "0.0001"
  pub below_half : figure_text 1 20001 ≡ bytes "0.0000"
  pub to_the_next_whole : figure_text 199999 100000 ≡ bytes "2.0000"
  pub none : figure_text 0 5 ≡ bytes "0.0000"
  pub nothing_to_divide_by : figure_text 0 0 ≡ []
  pub larger : is_larger 27 14 27 15 ≡ true
  pub as_large : is_larger 54 30 27 15 ≡ false
  pub no_figures : is_larger 0 0 0 0 ≡ false

pub figures : Examples
unfolding figure_text places_text is_larger decimal
figures = record {
  exact = refl;
  rounded_up = refl;
  rounded_down = refl;
  half = refl;
  below_half = refl;
  to_the_next_whole = refl;
  none = refl;
  nothing_to_divide_by = refl;
  larger = refl;
  as_large = refl;
  no_figures = refl;
}
