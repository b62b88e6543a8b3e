-- Laws of a text within quotes: byte by byte, and how many bytes it takes.
use Rattle.std.specs.Prelude.{◌≡◌, refl, Bool, true, false, cond, ◌||◌, List, [], ◌∷◌, ◌++◌, ℕ, ◌+◌, ◌*◌, ◌≤◌, ◌<◌, eqb, length, drop, get_or}
use Rattle.std.proofs.Common.{sym, ap, ◌∙◌, add-one, arith, length-append, drop_of_length-le, drop-cons, le-leb}
use Rattle.std.proofs.lemmas.Bool.{lt-leb}
use Rattle.text.specs.Text.{byte}
use Rattle.names.specs.ReadBack.{taken_in, stays_within}
use Rattle.names.specs.Quotes.{quoted_byte, quoted, quoted_in}

-- The text from an index on begins with the byte there, ..
pub quoted_at : (text : List ℕ) (i : ℕ) → i < length text
    → quoted (drop i text) ≡ quoted_byte (get_or text i 0) ++ quoted (drop (i + 1) text)
unfolding quoted
quoted_at text i inside = rw (add-one, drop-cons text i 0 inside)

-- .. and behind the last nothing is left.
pub quoted_end : (text : List ℕ) (i : ℕ) → length text ≤ i → quoted (drop i text) ≡ []
unfolding quoted
quoted_end text i past = rw (drop_of_length-le text past)

-- A byte within quotes is at most two.
byte-length : (b : ℕ) → length (quoted_byte b) ≤ 2
byte-length b = go (eqb b (byte "\"") || eqb b (byte "\\"))
  where
    go : (t : Bool) → length (cond t (byte "\\" ∷ b ∷ []) (b ∷ [])) ≤ 2
    go true = omega arith
    go false = omega arith

-- A text within quotes has at most two bytes for each of its own.
quoted-length : (l : List ℕ) → length (quoted l) ≤ 2 * length l
unfolding quoted
quoted-length [] = omega arith
quoted-length (b ∷ l) = rw length-append (omega (arith, byte-length b, quoted-length l))

-- Where there are two bytes for each, the text is put and fits, ..
pub quoted_whole : (text : List ℕ) (room : ℕ) → 2 * length text ≤ room → quoted_in text room ≡ quoted text
quoted_whole text room enough = rw (le-leb (2 * length text) room enough)

pub quoted_fits : (text lent : List ℕ) → 2 * length text ≤ length lent → length (quoted text) ≤ length lent
quoted_fits text lent enough = omega (arith, quoted-length text)

-- .. and where there are fewer, nothing is.
pub quoted_few : (text : List ℕ) (room : ℕ) → room < 2 * length text → quoted_in text room ≡ []
quoted_few text room few = rw (lt-leb (2 * length text) room few)

-- A byte within quotes reads back as itself, whatever stands behind it, ..
byte_back : (b : ℕ) (l : List ℕ) → taken_in false (quoted_byte b ++ l) ≡ b ∷ taken_in false l
unfolding taken_in
byte_back b l = go (eqb b (byte "\"")) (eqb b (byte "\\")) refl
  where
    go : (s t : Bool) → eqb b (byte "\\") ≡ t
        → taken_in false (cond (s || t) (byte "\\" ∷ b ∷ []) (b ∷ []) ++ l) ≡ b ∷ taken_in false l
    go false false e = rw e
    go false true e = refl
    go true t e = refl

-- .. and ends no quote.
byte_within : (b : ℕ) (l : List ℕ) → stays_within false (quoted_byte b ++ l) ≡ stays_within false l
unfolding stays_within
byte_within b l = go (eqb b (byte "\"")) (eqb b (byte "\\")) refl refl
  where
    go : (s t : Bool) → eqb b (byte "\"") ≡ s → eqb b (byte "\\") ≡ t
        → stays_within false (cond (s || t) (byte "\\" ∷ b ∷ []) (b ∷ []) ++ l) ≡ stays_within false l
    go false false quote slash = rw (slash, quote)
    go false true quote slash = refl
    go true t quote slash = refl

-- A text stays within its quotes.
pub stays_within_lem : (text : List ℕ) → stays_within false (quoted text) ≡ true
unfolding quoted stays_within
stays_within_lem [] = refl
stays_within_lem (b ∷ l) = byte_within b (quoted l) ∙ stays_within_lem l

-- It reads back as itself, ..
pub quoted_back : (text : List ℕ) → taken_in false (quoted text) ≡ text
unfolding quoted taken_in
quoted_back [] = refl
quoted_back (b ∷ l) = rw (byte_back b (quoted l), quoted_back l)

-- .. so that no two texts stand alike.
pub quoted_one : (k l : List ℕ) → quoted k ≡ quoted l → k ≡ l
quoted_one k l alike = sym (quoted_back k) ∙ (ap (taken_in false) alike ∙ quoted_back l)
