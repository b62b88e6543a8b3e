-- Laws of names as they are printed: no control character, plain names as they are, and no two names alike.
use Rattle.std.specs.Prelude.{◌≡◌, Bool, false, not, cond, ◌&&◌, ◌||◌, ltb, leb, eqb}
use Rattle.std.proofs.Math.Path.{refl}
use Rattle.std.proofs.Common.{sym, ap, ◌∙◌, true≢false, ltb-true, ltb-false, lt-ltb, le-ltb, le-leb, leb-true, leb-false, ne_eqb}
use Rattle.std.proofs.Math.Bool.{true, and-eq-true_iff}
use mathlib.Core.List.{List, [], ◌∷◌, ◌++◌}
use Prim.Native.Nat.{ℕ, zero, suc, ◌+◌, ◌-◌, ◌*◌, ◌/◌, ◌%◌, ◌≤◌, ◌<◌}
use native.Mathlib.Omega.{arith}
use Rattle.std.proofs.lemmas.Bool.{lt-leb, eqb-false, not-true}
use Rattle.io.specs.Digits.{hex_digit_ascii}
use Rattle.listing.specs.Every.{every}
use Rattle.listing.specs.Listing.{all_below}
use Rattle.text.specs.Text.{byte}
use Rattle.names.specs.Names.{
  within,
  is_turn,
  stands_as_it_is,
  is_code_point,
  lead_of,
  go_on,
  code_point,
  standing,
  spelt,
  printed,
  escaped_from,
  escaped,
}
use Rattle.names.specs.StandingLaws.{Stands, stands_tested}
use Rattle.names.specs.ReadBack.{no_control, is_plain, digit_of, read_behind, read_back}

-- A byte that is printed as it is: no control character and no backslash.
record Shown (b : ℕ) : Type 0 where
  least : 32 ≤ b
  other : b ≡ 127 → ⊥
  apart : b ≡ 92 → ⊥

-- A byte above those of ASCII is one.
above_shown : (b : ℕ) → 128 ≤ b → Shown b
above_shown b large = omega arith

-- So is a character that stands as it is, where it is one byte.
stands_shown : (c : ℕ) → stands_as_it_is c ≡ true → Shown c
unfolding stands_as_it_is
stands_shown c = go (leb c 0x1f) (within 0x7f 0x9f c) (is_turn c) (eqb c (byte "\\")) refl refl refl
  where
    go : (s t u v : Bool) → leb c 0x1f ≡ s → within 0x7f 0x9f c ≡ t → eqb c (byte "\\") ≡ v
        → not (s || t || u || v) ≡ true → Shown c
    go false false false false low high slash e =
        record {
          least = leb-false c 0x1f low;
          other = λ same. true≢false (rw same at high);
          apart = eqb-false c (byte "\\") slash;
        }
    go false false false true low high slash e = absurd (true≢false (sym e))
    go false false true v low high slash e = absurd (true≢false (sym e))
    go false true u v low high slash e = absurd (true≢false (sym e))
    go true t u v low high slash e = absurd (true≢false (sym e))

-- The first byte of a character is above ASCII, or it is the whole character.
first_shown_lem : (b : ℕ) (l : List ℕ) (m : ℕ) → Stands b l m → Shown b
unfolding lead_of code_point
first_shown_lem b l m stands = go (ltb b 0x80) refl
  where
    go : (t : Bool) → ltb b 0x80 ≡ t → Shown b
    go true e =
        let size = rw e at stands.size in
        let none : m ≡ 0 = omega arith in
        let passes = rw (e, none) at stands.passes in
        stands_shown b ((and-eq-true_iff (leb 0 b && is_code_point b) (stands_as_it_is b)).0 passes).1
    go false e = above_shown b (ltb-false b 0x80 e)

-- What holds of no name and what is printed of it, and of a name with one byte more where it holds of the name, holds
-- of each name.
module _ (P : List ℕ → List ℕ → Type 0) (none : P [] [])
    (as_it_is : (b : ℕ) (l m : List ℕ) → Shown b → P l m → P (b ∷ l) (b ∷ m))
    (spelt_out : (b : ℕ) (l m : List ℕ) → b < 256 → P l m → P (b ∷ l) (spelt b ++ m)) where
  from_each : (k : ℕ) (l : List ℕ) → go_on k l ≡ true → all_below 256 l ≡ true → P l (escaped_from k l)
  unfolding go_on escaped_from
  from_each k [] goes small = none
  from_each zero (b ∷ l) goes small =
      let both = (and-eq-true_iff (ltb b 256) (all_below 256 l)).0 small in
      go (standing (b ∷ l)) refl (ltb-true b 256 both.0) (λ k goes. from_each k l goes both.1)
    where
      go : (n : ℕ) → standing (b ∷ l) ≡ n → b < 256 → ((k : ℕ) → go_on k l ≡ true → P l (escaped_from k l))
          → P (b ∷ l) (printed n b ++ escaped_from (n - 1) l)
      go zero e byte each = spelt_out b l (escaped_from 0 l) byte (each 0 refl)
      go (suc m) e byte each =
          let stands = stands_tested b l m e in
          let one : suc m - 1 ≡ m = omega arith in
          rw one (as_it_is b l (escaped_from m l) (first_shown_lem b l m stands) (each m stands.goes))
  from_each (suc k) (b ∷ l) goes small =
      let both = (and-eq-true_iff (ltb b 256) (all_below 256 l)).0 small in
      let further = (and-eq-true_iff (within 0x80 0xbf b) (go_on k l)).0 goes in
      let high = (and-eq-true_iff (leb 0x80 b) (leb b 0xbf)).0 further.0 in
      as_it_is b l (escaped_from k l) (above_shown b (leb-true 0x80 b high.0)) (from_each k l further.1 both.1)

  by_bytes : (name : List ℕ) → all_below 256 name ≡ true → P name (escaped name)
  unfolding go_on
  by_bytes name small = from_each 0 name refl small

-- A digit of hexadecimal is one of 0 to 9 or a to f.
glyph_shown : (d : ℕ) → d < 16 → Shown (hex_digit_ascii d)
glyph_shown d small = go (ltb d 10) refl
  where
    go : (t : Bool) → ltb d 10 ≡ t → Shown (cond t (48 + d) (87 + d))
    go true e = omega (arith, ltb-true d 10 e)
    go false e = omega (arith, ltb-false d 10 e)

-- A byte that is printed as it is is no control character.
shown_control : (b : ℕ) → Shown b → no_control b ≡ true
shown_control b shown = rw (le-leb 32 b shown.least, ne_eqb b 127 shown.other)

-- No byte that is printed is a control character.
pub no_control_lem : (name : List ℕ) → all_below 256 name ≡ true → every no_control (escaped name) ≡ true
no_control_lem = by_bytes (λ l m. every no_control m ≡ true) refl as_it_is spelt_out
  where
    as_it_is : (b : ℕ) (l m : List ℕ) → Shown b → every no_control m ≡ true → every no_control (b ∷ m) ≡ true
    as_it_is b l m shown before = rw (shown_control b shown) before

    spelt_out : (b : ℕ) (l m : List ℕ) → b < 256 → every no_control m ≡ true → every no_control (spelt b ++ m) ≡ true
    spelt_out b l m small before =
        let high = shown_control (hex_digit_ascii (b / 16)) (glyph_shown (b / 16) (omega arith)) in
        let low = shown_control (hex_digit_ascii (b % 16)) (glyph_shown (b % 16) (omega arith)) in
        rw (high, low) before

-- A plain byte is a character that stands as it is.
plain_stands : (b : ℕ) (l : List ℕ) → is_plain b ≡ true → standing (b ∷ l) ≡ 1
unfolding standing lead_of go_on code_point is_code_point stands_as_it_is
plain_stands b l plain =
    let both = (and-eq-true_iff (leb (byte " ") b && leb b (byte "~")) (not (eqb b (byte "\\")))).0 plain in
    let ends = (and-eq-true_iff (leb (byte " ") b) (leb b (byte "~"))).0 both.0 in
    let least = leb-true (byte " ") b ends.0 in
    let most = leb-true b (byte "~") ends.1 in
    let other = not-true (eqb b (byte "\\")) both.1 in
    rw (
      lt-ltb b 0x80 (omega arith),
      le-leb 0 b (omega arith),
      le-leb b 0x10ffff (omega arith),
      lt-leb 0xd800 b (omega arith),
      lt-leb b 0x1f (omega arith),
      lt-leb 0x7f b (omega arith),
      ne_eqb b 0x61c (omega arith),
      lt-leb 0x200e b (omega arith),
      lt-leb 0x2028 b (omega arith),
      lt-leb 0x2066 b (omega arith),
      other,
    )

-- A plain name is printed as it is.
pub plain_name : (name : List ℕ) → every is_plain name ≡ true → escaped name ≡ name
unfolding escaped_from
plain_name [] plain = refl
plain_name (b ∷ l) plain =
    let both = (and-eq-true_iff (is_plain b) (every is_plain l)).0 plain in
    rw (plain_stands b l both.0) (ap (λ (m : List ℕ). b ∷ m) (plain_name l both.1))

-- The number of a digit of hexadecimal is the number that it was made of.
digit_glyph : (d : ℕ) → d < 16 → digit_of (hex_digit_ascii d) ≡ d
digit_glyph d small = go (ltb d 10) refl
  where
    go : (t : Bool) → ltb d 10 ≡ t → digit_of (cond t (48 + d) (87 + d)) ≡ d
    go true e = let below = ltb-true d 10 e in rw (lt-ltb (48 + d) (byte "a") (omega arith)) (omega arith)
    go false e = let above = ltb-false d 10 e in rw (le-ltb (87 + d) (byte "a") (omega arith)) (omega arith)

-- What is printed of a name reads back as the name.
pub reads_back : (name : List ℕ) → all_below 256 name ≡ true → read_back (escaped name) ≡ name
unfolding read_behind
reads_back = by_bytes (λ l m. read_back m ≡ l) refl as_it_is spelt_out
  where
    as_it_is : (b : ℕ) (l m : List ℕ) → Shown b → read_back m ≡ l → read_back (b ∷ m) ≡ b ∷ l
    as_it_is b l m shown before = rw (ne_eqb b (byte "\\") shown.apart, before)

    spelt_out : (b : ℕ) (l m : List ℕ) → b < 256 → read_back m ≡ l → read_back (spelt b ++ m) ≡ b ∷ l
    spelt_out b l m small before =
        let whole : 16 * (b / 16) + b % 16 ≡ b = omega arith in
        rw (digit_glyph (b / 16) (omega arith), digit_glyph (b % 16) (omega arith), whole, before)

-- No two names are printed alike.
pub escaped_one : (k l : List ℕ) → all_below 256 k ≡ true → all_below 256 l ≡ true → escaped k ≡ escaped l → k ≡ l
escaped_one k l one other alike = sym (reads_back k one) ∙ (ap read_back alike ∙ reads_back l other)
