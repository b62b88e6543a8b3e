-- Laws of names and UTF-8: each character is printed as it is or spelt out byte by byte, and what stands as it is is a
-- character.
use Rattle.std.specs.Prelude.{◌≡◌, refl, Bool, true, false, not, cond, ◌&&◌, List, [], ◌∷◌, ◌++◌, ℕ, zero, suc, ◌+◌, ◌-◌, ◌*◌, ◌/◌, ◌%◌, ◌≤◌, ◌<◌, ltb, leb, length, take, drop}
use Rattle.std.proofs.Common.{sym, ap, subst₂, ◌∙◌, true≢false, length-drop, take-append-drop}
use Rattle.std.proofs.Math.Bool.{and-eq-true_iff}
use native.Mathlib.Omega.{arith}
use borrow.Author.Tests.{ltb-true, ltb-false, lt-ltb, le-ltb, le-leb, leb-true}
use Rattle.names.specs.Names.{
  within,
  stands_as_it_is,
  is_code_point,
  lead_with,
  lead_of,
  go_on,
  code_point,
  is_standing,
  standing,
  spelt,
  escaped_from,
  escaped,
}
use Rattle.names.specs.StandingLaws.{Stands, stands_tested}
use Rattle.names.specs.EscapeLaws.{escaped_standing, escaped_spelt}
use Rattle.names.specs.Utf8.{six, utf8, all_spelt, InPieces, none, as_it_is, spelt_out}

-- The first byte of a character of one, two, three and four bytes.
lead_one : (x : ℕ) → x < 0x80 → lead_of x ≡ lead_with 1 x 0
unfolding lead_of
lead_one x small = rw (lt-ltb x 0x80 small)

lead_two : (x : ℕ) → x < 32 → lead_of (0xc0 + x) ≡ lead_with 2 x 0x80
unfolding lead_of
lead_two x small =
    let bits : 0xc0 + x - 0xc0 ≡ x = omega arith in
    let b = 0xc0 + x in
    rw (le-ltb b 0x80 (omega arith), le-ltb b 0xc0 (omega arith), lt-ltb b 0xe0 (omega arith), bits)

lead_three : (x : ℕ) → x < 16 → lead_of (0xe0 + x) ≡ lead_with 3 x 0x800
unfolding lead_of
lead_three x small =
    let bits : 0xe0 + x - 0xe0 ≡ x = omega arith in
    let b = 0xe0 + x in
    rw (
      le-ltb b 0x80 (omega arith),
      le-ltb b 0xc0 (omega arith),
      le-ltb b 0xe0 (omega arith),
      lt-ltb b 0xf0 (omega arith),
      bits,
    )

lead_four : (x : ℕ) → x < 8 → lead_of (0xf0 + x) ≡ lead_with 4 x 0x10000
unfolding lead_of
lead_four x small =
    let bits : 0xf0 + x - 0xf0 ≡ x = omega arith in
    let b = 0xf0 + x in
    rw (
      le-ltb b 0x80 (omega arith),
      le-ltb b 0xc0 (omega arith),
      le-ltb b 0xe0 (omega arith),
      le-ltb b 0xf0 (omega arith),
      lt-ltb b 0xf8 (omega arith),
      bits,
    )

-- A byte behind the first begins no character, ..
six_begins : (c : ℕ) (l : List ℕ) → standing (six c ∷ l) ≡ 0
unfolding standing lead_of go_on code_point is_code_point stands_as_it_is
six_begins c l = rw (le-ltb (six c) 0x80 (omega arith), lt-ltb (six c) 0xc0 (omega arith))

-- .. goes on one, and gives six bits.
six_low : (c : ℕ) → leb 0x80 (six c) ≡ true
six_low c = le-leb 0x80 (six c) (omega arith)

six_high : (c : ℕ) → leb (six c) 0xbf ≡ true
six_high c = le-leb (six c) 0xbf (omega arith)

six_bits : (c : ℕ) → six c - 0x80 ≡ c % 64
six_bits c = omega arith

-- A character of one, two, three and four bytes.
module _ (c : ℕ) (l : List ℕ) (allowed : is_code_point c ≡ true) where
  stands_one : c < 0x80 → standing (c ∷ l) ≡ cond (stands_as_it_is c) 1 0
  unfolding standing go_on code_point
  stands_one most = rw (lead_one c most, le-leb 0 c (omega arith), allowed)

  stands_two : 0x80 ≤ c → c < 0x800 → standing ((0xc0 + c / 64) ∷ six c ∷ l) ≡ cond (stands_as_it_is c) 2 0
  unfolding standing go_on code_point
  stands_two least most =
      let whole : 64 * (c / 64) + c % 64 ≡ c = omega arith in
      rw (lead_two (c / 64) (omega arith), six_low c, six_high c, six_bits c, whole, le-leb 0x80 c least, allowed)

  stands_three : 0x800 ≤ c → c < 0x10000
      → standing ((0xe0 + c / 4096) ∷ six (c / 64) ∷ six c ∷ l) ≡ cond (stands_as_it_is c) 3 0
  unfolding standing go_on code_point
  stands_three least most =
      let whole : 64 * (64 * (c / 4096) + c / 64 % 64) + c % 64 ≡ c = omega arith in
      rw (
        lead_three (c / 4096) (omega arith),
        six_low (c / 64),
        six_high (c / 64),
        six_bits (c / 64),
        six_low c,
        six_high c,
        six_bits c,
        whole,
        le-leb 0x800 c least,
        allowed,
      )

  stands_four : 0x10000 ≤ c → c < 0x200000
      → standing ((0xf0 + c / 262144) ∷ six (c / 4096) ∷ six (c / 64) ∷ six c ∷ l) ≡ cond (stands_as_it_is c) 4 0
  unfolding standing go_on code_point
  stands_four least most =
      let whole : 64 * (64 * (64 * (c / 262144) + c / 4096 % 64) + c / 64 % 64) + c % 64 ≡ c = omega arith in
      rw (
        lead_four (c / 262144) (omega arith),
        six_low (c / 4096),
        six_high (c / 4096),
        six_bits (c / 4096),
        six_low (c / 64),
        six_high (c / 64),
        six_bits (c / 64),
        six_low c,
        six_high c,
        six_bits c,
        whole,
        le-leb 0x10000 c least,
        allowed,
      )

-- The bytes of the characters of each size.
utf8_one : (c : ℕ) → c < 0x80 → utf8 c ≡ c ∷ []
unfolding utf8
utf8_one c most = rw (lt-ltb c 0x80 most)

utf8_two : (c : ℕ) → 0x80 ≤ c → c < 0x800 → utf8 c ≡ (0xc0 + c / 64) ∷ six c ∷ []
unfolding utf8
utf8_two c least most = rw (le-ltb c 0x80 least, lt-ltb c 0x800 most)

utf8_three : (c : ℕ) → 0x800 ≤ c → c < 0x10000 → utf8 c ≡ (0xe0 + c / 4096) ∷ six (c / 64) ∷ six c ∷ []
unfolding utf8
utf8_three c least most = rw (le-ltb c 0x80 (omega arith), le-ltb c 0x800 least, lt-ltb c 0x10000 most)

utf8_four : (c : ℕ) → 0x10000 ≤ c → utf8 c ≡ (0xf0 + c / 262144) ∷ six (c / 4096) ∷ six (c / 64) ∷ six c ∷ []
unfolding utf8
utf8_four c least = rw (le-ltb c 0x80 (omega arith), le-ltb c 0x800 (omega arith), le-ltb c 0x10000 least)

-- A code point is at most U+10FFFF.
code_point_most : (c : ℕ) → is_code_point c ≡ true → c < 0x200000
unfolding is_code_point
code_point_most c allowed =
    omega (arith, leb-true c 0x10ffff ((and-eq-true_iff (leb c 0x10ffff) (not (within 0xd800 0xdfff c))).0 allowed).0)

-- What holds of the characters of each size holds of all.
by_size : (P : List ℕ → Type 0) (c : ℕ) → is_code_point c ≡ true → (c < 0x80 → P (c ∷ []))
    → (0x80 ≤ c → c < 0x800 → P ((0xc0 + c / 64) ∷ six c ∷ []))
    → (0x800 ≤ c → c < 0x10000 → P ((0xe0 + c / 4096) ∷ six (c / 64) ∷ six c ∷ []))
    → (0x10000 ≤ c → c < 0x200000 → P ((0xf0 + c / 262144) ∷ six (c / 4096) ∷ six (c / 64) ∷ six c ∷ [])) → P (utf8 c)
by_size P c allowed one two three four = go (ltb c 0x80) (ltb c 0x800) (ltb c 0x10000) refl refl refl
  where
    go : (s t u : Bool) → ltb c 0x80 ≡ s → ltb c 0x800 ≡ t → ltb c 0x10000 ≡ u → P (utf8 c)
    go true t u e f g = let most = ltb-true c 0x80 e in rw (utf8_one c most) (one most)
    go false true u e f g =
        let least = ltb-false c 0x80 e in
        let most = ltb-true c 0x800 f in
        rw (utf8_two c least most) (two least most)
    go false false true e f g =
        let least = ltb-false c 0x800 f in
        let most = ltb-true c 0x10000 g in
        rw (utf8_three c least most) (three least most)
    go false false false e f g =
        let least = ltb-false c 0x10000 g in
        rw (utf8_four c least) (four least (code_point_most c allowed))

-- A character that stands as it is is printed as it is.
pub character_stands : (c : ℕ) (l : List ℕ) → is_code_point c ≡ true → stands_as_it_is c ≡ true
    → escaped (utf8 c ++ l) ≡ utf8 c ++ escaped l
character_stands c l allowed stands =
    by_size (λ text. escaped (text ++ l) ≡ text ++ escaped l) c allowed
    (λ most. escaped_standing (c ∷ l) 1 (omega arith) (stands_one c l allowed most ∙ rw stands))
    (λ least most. escaped_standing (_ ∷ _ ∷ l) 2 (omega arith) (stands_two c l allowed least most ∙ rw stands))
    (λ least most. escaped_standing (_ ∷ _ ∷ _ ∷ l) 3 (omega arith) (stands_three c l allowed least most ∙ rw stands))
    (λ least most.
    escaped_standing (_ ∷ _ ∷ _ ∷ _ ∷ l) 4 (omega arith) (stands_four c l allowed least most ∙ rw stands))

-- Bytes behind the first are spelt out where they stand alone.
alone : (c : ℕ) (l : List ℕ) → escaped (six c ∷ l) ≡ spelt (six c) ++ escaped l
alone c l = escaped_spelt (six c) l (six_begins c l)

-- Any other is spelt out, each of its bytes.
pub character_spelt : (c : ℕ) (l : List ℕ) → is_code_point c ≡ true → stands_as_it_is c ≡ false
    → escaped (utf8 c ++ l) ≡ all_spelt (utf8 c) ++ escaped l
unfolding all_spelt
character_spelt c l allowed stands =
    by_size (λ text. escaped (text ++ l) ≡ all_spelt text ++ escaped l) c allowed
    (λ most. escaped_spelt c l (stands_one c l allowed most ∙ rw stands))
    (λ least most. escaped_spelt _ _ (stands_two c l allowed least most ∙ rw stands) ∙ rw (alone c l))
    (λ least most. escaped_spelt _ _ (stands_three c l allowed least most ∙ rw stands) ∙
    rw (alone (c / 64) (six c ∷ l), alone c l))
    (λ least most. escaped_spelt _ _ (stands_four c l allowed least most ∙ rw stands) ∙
    rw (alone (c / 4096) (six (c / 64) ∷ six c ∷ l), alone (c / 64) (six c ∷ l), alone c l))

-- A character that stands as it is, at the front of a list.
pub record Character (l : List ℕ) (n : ℕ) : Type 0 where
  pub point : ℕ
  pub allowed : is_code_point point ≡ true
  pub stands : stands_as_it_is point ≡ true
  pub bytes : take n l ≡ utf8 point

-- What the tests say of a code point.
record Tested (least c : ℕ) : Type 0 where
  shortest : least ≤ c
  allowed : is_code_point c ≡ true
  stands : stands_as_it_is c ≡ true

tested : (least c : ℕ) → is_standing least c ≡ true → Tested least c
tested least c e =
    let both = (and-eq-true_iff (leb least c && is_code_point c) (stands_as_it_is c)).0 e in
    let first = (and-eq-true_iff (leb least c) (is_code_point c)).0 both.0 in
    record { shortest = leb-true least c first.0; allowed = first.1; stands = both.1 }

-- A byte behind the first, and that the bytes behind it go on.
record Further (b n : ℕ) (l : List ℕ) : Type 0 where
  low : 0x80 ≤ b
  high : b ≤ 0xbf
  goes : go_on n l ≡ true

further : (n b : ℕ) (l : List ℕ) → go_on (suc n) (b ∷ l) ≡ true → Further b n l
unfolding go_on
further n b l e =
    let both = (and-eq-true_iff (within 0x80 0xbf b) (go_on n l)).0 e in
    let ends = (and-eq-true_iff (leb 0x80 b) (leb b 0xbf)).0 both.0 in
    record { low = leb-true 0x80 b ends.0; high = leb-true b 0xbf ends.1; goes = both.1 }

none_further : {A : Type 0} (n : ℕ) → go_on (suc n) [] ≡ true → A
unfolding go_on
none_further n e = absurd (true≢false (sym e))

-- Bytes that spell a character of two, three and four bytes are those of the character.
spell_two : (b d : ℕ) → 0xc0 ≤ b → b < 0xe0 → 0x80 ≤ d → d ≤ 0xbf
    → let c = 64 * (b - 0xc0) + (d - 0x80) in 0x80 ≤ c → utf8 c ≡ b ∷ d ∷ []
spell_two b d low high dlow dhigh least =
    let c = 64 * (b - 0xc0) + (d - 0x80) in
    let one : 0xc0 + c / 64 ≡ b = omega arith in
    let two : six c ≡ d = omega arith in
    utf8_two c least (omega arith) ∙ rw (one, two)

spell_three : (b d e : ℕ) → 0xe0 ≤ b → b < 0xf0 → 0x80 ≤ d → d ≤ 0xbf → 0x80 ≤ e → e ≤ 0xbf
    → let c = 64 * (64 * (b - 0xe0) + (d - 0x80)) + (e - 0x80) in 0x800 ≤ c → utf8 c ≡ b ∷ d ∷ e ∷ []
spell_three b d e low high dlow dhigh elow ehigh least =
    let c = 64 * (64 * (b - 0xe0) + (d - 0x80)) + (e - 0x80) in
    let one : 0xe0 + c / 4096 ≡ b = omega arith in
    let two : six (c / 64) ≡ d = omega arith in
    let three : six c ≡ e = omega arith in
    utf8_three c least (omega arith) ∙ rw (one, two, three)

spell_four : (b d e f : ℕ) → 0xf0 ≤ b → b < 0xf8 → 0x80 ≤ d → d ≤ 0xbf → 0x80 ≤ e → e ≤ 0xbf → 0x80 ≤ f → f ≤ 0xbf
    → let c = 64 * (64 * (64 * (b - 0xf0) + (d - 0x80)) + (e - 0x80)) + (f - 0x80) in 0x10000 ≤ c
    → utf8 c ≡ b ∷ d ∷ e ∷ f ∷ []
spell_four b d e f low high dlow dhigh elow ehigh flow fhigh least =
    let c = 64 * (64 * (64 * (b - 0xf0) + (d - 0x80)) + (e - 0x80)) + (f - 0x80) in
    let one : 0xf0 + c / 262144 ≡ b = omega arith in
    let two : six (c / 4096) ≡ d = omega arith in
    let three : six (c / 64) ≡ e = omega arith in
    let four : six c ≡ f = omega arith in
    utf8_four c least ∙ rw (one, two, three, four)

-- So bytes that stand as they are spell a character, by how many there are.
one_character : (b : ℕ) (l : List ℕ) → b < 0x80 → is_standing 0 (code_point b 0 l) ≡ true → Character (b ∷ l) 1
unfolding code_point
one_character b l high passes =
    let test = tested 0 b passes in
    record { point = b; allowed = test.allowed; stands = test.stands; bytes = sym (utf8_one b high) }

two_character : (b : ℕ) (l : List ℕ) → 0xc0 ≤ b → b < 0xe0 → go_on 1 l ≡ true
    → is_standing 0x80 (code_point (b - 0xc0) 1 l) ≡ true → Character (b ∷ l) 2
unfolding code_point
two_character b [] low high goes passes = none_further 0 goes
two_character b (d ∷ l) low high goes passes =
    let second = further 0 d l goes in
    let c = 64 * (b - 0xc0) + (d - 0x80) in
    let test = tested 0x80 c passes in
    record {
      point = c;
      allowed = test.allowed;
      stands = test.stands;
      bytes = sym (spell_two b d low high second.low second.high test.shortest);
    }

three_character : (b : ℕ) (l : List ℕ) → 0xe0 ≤ b → b < 0xf0 → go_on 2 l ≡ true
    → is_standing 0x800 (code_point (b - 0xe0) 2 l) ≡ true → Character (b ∷ l) 3
unfolding code_point
three_character b [] low high goes passes = none_further 1 goes
three_character b (d ∷ []) low high goes passes = none_further 0 (further 1 d [] goes).goes
three_character b (d ∷ e ∷ l) low high goes passes =
    let second = further 1 d (e ∷ l) goes in
    let third = further 0 e l second.goes in
    let c = 64 * (64 * (b - 0xe0) + (d - 0x80)) + (e - 0x80) in
    let test = tested 0x800 c passes in
    record {
      point = c;
      allowed = test.allowed;
      stands = test.stands;
      bytes = sym (spell_three b d e low high second.low second.high third.low third.high test.shortest);
    }

four_character : (b : ℕ) (l : List ℕ) → 0xf0 ≤ b → b < 0xf8 → go_on 3 l ≡ true
    → is_standing 0x10000 (code_point (b - 0xf0) 3 l) ≡ true → Character (b ∷ l) 4
unfolding code_point
four_character b [] low high goes passes = none_further 2 goes
four_character b (d ∷ []) low high goes passes = none_further 1 (further 2 d [] goes).goes
four_character b (d ∷ e ∷ []) low high goes passes =
    none_further 0 (further 1 e [] (further 2 d (e ∷ []) goes).goes).goes
four_character b (d ∷ e ∷ f ∷ l) low high goes passes =
    let second = further 2 d (e ∷ f ∷ l) goes in
    let third = further 1 e (f ∷ l) second.goes in
    let fourth = further 0 f l third.goes in
    let c = 64 * (64 * (64 * (b - 0xf0) + (d - 0x80)) + (e - 0x80)) + (f - 0x80) in
    let test = tested 0x10000 c passes in
    record {
      point = c;
      allowed = test.allowed;
      stands = test.stands;
      bytes =
          sym
          (spell_four b d e f low high second.low second.high third.low third.high fourth.low
          fourth.high test.shortest);
    }

-- What stands as it is is a character.
first_character : (b : ℕ) (l : List ℕ) (m : ℕ) → Stands b l m → Character (b ∷ l) (suc m)
unfolding lead_of
first_character b l m stands =
    go (ltb b 0x80) (ltb b 0xc0) (ltb b 0xe0) (ltb b 0xf0) (ltb b 0xf8) refl refl refl refl refl
  where
    go : (s t u v w : Bool) → ltb b 0x80 ≡ s → ltb b 0xc0 ≡ t → ltb b 0xe0 ≡ u → ltb b 0xf0 ≡ v → ltb b 0xf8 ≡ w
        → Character (b ∷ l) (suc m)
    go true t u v w i j k p q =
        let size = rw i at stands.size in
        let more : m ≡ 0 = omega arith in
        rw more (one_character b l (ltb-true b 0x80 i) (rw (i, more) at stands.passes))
    go false true u v w i j k p q = let size = rw (i, j) at stands.size in absurd (omega arith)
    go false false true v w i j k p q =
        let size = rw (i, j, k) at stands.size in
        let more : m ≡ 1 = omega arith in
        rw more
        (two_character b l (ltb-false b 0xc0 j) (ltb-true b 0xe0 k) (rw more at stands.goes)
        (rw (i, j, k, more) at stands.passes))
    go false false false true w i j k p q =
        let size = rw (i, j, k, p) at stands.size in
        let more : m ≡ 2 = omega arith in
        rw more
        (three_character b l (ltb-false b 0xe0 k) (ltb-true b 0xf0 p) (rw more at stands.goes)
        (rw (i, j, k, p, more) at stands.passes))
    go false false false false true i j k p q =
        let size = rw (i, j, k, p, q) at stands.size in
        let more : m ≡ 3 = omega arith in
        rw more
        (four_character b l (ltb-false b 0xf0 p) (ltb-true b 0xf8 q) (rw more at stands.goes)
        (rw (i, j, k, p, q, more) at stands.passes))
    go false false false false false i j k p q = let size = rw (i, j, k, p, q) at stands.size in absurd (omega arith)

pub standing_character : (l : List ℕ) (n : ℕ) → standing l ≡ n → 0 < n → Character l n
unfolding standing
standing_character l zero e some = absurd (omega arith)
standing_character [] (suc n) e some = absurd (omega arith)
standing_character (b ∷ l) (suc n) e some = first_character b l n (stands_tested b l n e)

-- What is printed of a name is characters that stand as they are, and bytes that are spelt out: of its first piece, ..
first_piece : (b : ℕ) (l : List ℕ) (n : ℕ) → standing (b ∷ l) ≡ n
    → ((k : List ℕ) → length k ≤ length l → InPieces k (escaped k)) → InPieces (b ∷ l) (escaped (b ∷ l))
first_piece b l zero e shorter = rw (escaped_spelt b l e) (spelt_out b (shorter l (omega arith)))
first_piece b l (suc n) e shorter =
    let first = standing_character (b ∷ l) (suc n) e (omega arith) in
    let text = utf8 first.point in
    let whole : text ++ drop n l ≡ b ∷ l =
    ap (λ (k : List ℕ). k ++ drop n l) (sym first.bytes) ∙ take-append-drop (suc n) (b ∷ l) in
    let shown : text ++ escaped (drop n l) ≡ escaped (b ∷ l) =
    ap (λ (k : List ℕ). k ++ escaped (drop n l)) (sym first.bytes) ∙
    sym (escaped_standing (b ∷ l) (suc n) (omega arith) e) in
    subst₂ InPieces whole shown
    (as_it_is first.point first.allowed first.stands (shorter (drop n l) (rw length-drop (omega arith))))

-- .. of all where it holds of each shorter name, ..
all_pieces : (l : List ℕ) → ((k : List ℕ) → length k < length l → InPieces k (escaped k)) → InPieces l (escaped l)
unfolding escaped_from
all_pieces [] shorter = none
all_pieces (b ∷ l) shorter = first_piece b l (standing (b ∷ l)) refl (λ k short. shorter k (omega arith))

-- .. and so of each name.
pub in_pieces : (name : List ℕ) → InPieces name (escaped name)
in_pieces name = up_to (length name) name (omega arith)
  where
    up_to : (bound : ℕ) (l : List ℕ) → length l ≤ bound → InPieces l (escaped l)
    up_to zero l short = all_pieces l (λ k shorter. absurd (omega arith))
    up_to (suc bound) l short = all_pieces l (λ k shorter. up_to bound k (omega arith))
