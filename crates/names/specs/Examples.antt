-- Worked examples of the definitions.
use Rattle.std.specs.Prelude.{◌≡◌, refl, [], ◌∷◌}
use Rattle.text.specs.Text.{bytes}
use Rattle.names.specs.Names.{
  stands_as_it_is,
  is_code_point,
  lead_of,
  go_on,
  code_point,
  standing,
  escaped_from,
  escaped,
  escaped_in,
}
use Rattle.names.specs.Quotes.{quoted, quoted_in}

pub record Printed : Type 0 where
  pub plain : escaped (bytes "take1.cells") ≡ bytes "take1.cells"
  pub newline : escaped (bytes "a\nb") ≡ bytes "a\\x0ab"
  pub backslash : escaped (bytes "a\\b") ≡ bytes "a\\x5cb"
  pub delete : escaped (0x7f ∷ []) ≡ bytes "\\x7f"
  pub two_bytes : escaped (0x63 ∷ 0xc3 ∷ 0xa9 ∷ []) ≡ 0x63 ∷ 0xc3 ∷ 0xa9 ∷ []
  pub three_bytes : escaped (0xe2 ∷ 0x82 ∷ 0xac ∷ 0x21 ∷ []) ≡ 0xe2 ∷ 0x82 ∷ 0xac ∷ 0x21 ∷ []
  pub four_bytes : escaped (0xf0 ∷ 0x9f ∷ 0x8e ∷ 0x99 ∷ []) ≡ 0xf0 ∷ 0x9f ∷ 0x8e ∷ 0x99 ∷ []
  pub no_character : escaped (0xff ∷ []) ≡ bytes "\\xff"
  pub first_byte_alone : escaped (0xc3 ∷ []) ≡ bytes "\\xc3"
  pub first_byte_before_another : escaped (0xc3 ∷ 0xc3 ∷ 0xa9 ∷ []) ≡ 0x5c ∷ 0x78 ∷ 0x63 ∷ 0x33 ∷ 0xc3 ∷ 0xa9 ∷ []
  pub further_byte_alone : escaped (0xa9 ∷ []) ≡ bytes "\\xa9"
  pub further_control : escaped (0xc2 ∷ 0x85 ∷ []) ≡ bytes "\\xc2\\x85"
  pub behind_the_controls : escaped (0xc2 ∷ 0xa0 ∷ []) ≡ 0xc2 ∷ 0xa0 ∷ []
  pub arabic_mark : escaped (0xd8 ∷ 0x9c ∷ []) ≡ bytes "\\xd8\\x9c"
  pub line_separator : escaped (0xe2 ∷ 0x80 ∷ 0xa8 ∷ []) ≡ bytes "\\xe2\\x80\\xa8"
  pub override : escaped (0xe2 ∷ 0x80 ∷ 0xae ∷ []) ≡ bytes "\\xe2\\x80\\xae"
  pub isolate : escaped (0xe2 ∷ 0x81 ∷ 0xa6 ∷ []) ≡ bytes "\\xe2\\x81\\xa6"
  pub surrogate : escaped (0xed ∷ 0xa0 ∷ 0x80 ∷ []) ≡ bytes "\\xed\\xa0\\x80"
  pub overlong_two : escaped (0xc0 ∷ 0x80 ∷ []) ≡ bytes "\\xc0\\x80"
  pub overlong_three : escaped (0xe0 ∷ 0x81 ∷ 0x81 ∷ []) ≡ bytes "\\xe0\\x81\\x81"
  pub overlong_four : escaped (0xf0 ∷ 0x82 ∷ 0x82 ∷ 0xac ∷ []) ≡ bytes "\\xf0\\x82\\x82\\xac"
  pub largest : escaped (0xf4 ∷ 0x8f ∷ 0xbf ∷ 0xbf ∷ []) ≡ 0xf4 ∷ 0x8f ∷ 0xbf ∷ 0xbf ∷ []
  pub larger : escaped (0xf4 ∷ 0x90 ∷ 0x80 ∷ 0x80 ∷ []) ≡ bytes "\\xf4\\x90\\x80\\x80"
  pub room : escaped_in (bytes "ab") 8 ≡ bytes "ab"
  pub no_room : escaped_in (bytes "ab") 7 ≡ []

pub names : Printed
unfolding stands_as_it_is is_code_point lead_of go_on code_point standing escaped_from
names = record {
  plain = refl;
  newline = refl;
  backslash = refl;
  delete = refl;
  two_bytes = refl;
  three_bytes = refl;
  four_bytes = refl;
  no_character = refl;
  first_byte_alone = refl;
  first_byte_before_another = refl;
  further_byte_alone = refl;
  further_control = refl;
  behind_the_controls = refl;
  arabic_mark = refl;
  line_separator = refl;
  override = refl;
  isolate = refl;
  surrogate = refl;
  overlong_two = refl;
  overlong_three = refl;
  overlong_four = refl;
  largest = refl;
  larger = refl;
  room = refl;
  no_room = refl;
}

pub record Quoted : Type 0 where
  pub plain : quoted (bytes "take1.cells") ≡ bytes "take1.cells"
  pub quote : quoted (bytes "a\"b") ≡ bytes "a\\\"b"
  pub newline : quoted (escaped (bytes "\n")) ≡ bytes "\\\\x0a"
  pub room : quoted_in (bytes "ab") 4 ≡ bytes "ab"
  pub no_room : quoted_in (bytes "ab") 3 ≡ []

pub quotes : Quoted
unfolding stands_as_it_is is_code_point lead_of go_on code_point standing escaped_from quoted
quotes = record { plain = refl; quote = refl; newline = refl; room = refl; no_room = refl }
