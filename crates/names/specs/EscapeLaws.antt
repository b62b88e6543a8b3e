-- Laws of a name as it is printed: character by character, and how many bytes it takes.
use Rattle.std.specs.Prelude.{◌≡◌, refl, List, [], ◌∷◌, ◌++◌, ℕ, zero, suc, ◌+◌, ◌-◌, ◌*◌, ◌≤◌, ◌<◌, length, take, drop, get_or}
use Rattle.std.proofs.Common.{sym, add-one, arith, length-append, drop_of_length-le, drop-cons, drop-drop, le-leb}
use Rattle.std.proofs.lemmas.Bool.{lt-leb}
use Rattle.names.specs.Names.{standing, spelt, printed, escaped_from, escaped, escaped_in}

-- Bytes of which the first k belong to a character that stands as it is: these, and what is printed of the others.
copied : (k : ℕ) (l : List ℕ) → escaped_from k l ≡ take k l ++ escaped (drop k l)
unfolding escaped_from
copied zero l = refl
copied (suc k) [] = refl
copied (suc k) (b ∷ l) = rw (copied k l)

-- A character that stands as it is, and what is printed of what is behind it.
pub escaped_standing : (l : List ℕ) (n : ℕ) → 0 < n → standing l ≡ n → escaped l ≡ take n l ++ escaped (drop n l)
unfolding escaped_from
escaped_standing l zero some e = absurd (omega arith)
escaped_standing [] (suc n) some e = refl
escaped_standing (b ∷ l) (suc n) some e = let one : suc n - 1 ≡ n = omega arith in rw (e, one, copied n l)

-- A byte that is spelt out, and what is printed of what is behind it.
pub escaped_spelt : (b : ℕ) (l : List ℕ) → standing (b ∷ l) ≡ 0 → escaped (b ∷ l) ≡ spelt b ++ escaped l
unfolding escaped_from
escaped_spelt b l e = rw e

-- From an index of a name on: a byte that is spelt out and what is behind it, ..
pub spelt_at : (name : List ℕ) (i : ℕ) → i < length name → standing (drop i name) ≡ 0
    → escaped (drop i name) ≡ spelt (get_or name i 0) ++ escaped (drop (i + 1) name)
spelt_at name i inside none =
    let begun : drop i name ≡ get_or name i 0 ∷ drop (i + 1) name = rw add-one (drop-cons name i 0 inside) in
    rw begun (escaped_spelt (get_or name i 0) (drop (i + 1) name) (rw begun at none))

-- .. a character that stands as it is and what is behind it, ..
pub standing_at : (name : List ℕ) (i n : ℕ) → n ≡ standing (drop i name) → (n ≡ 0 → ⊥)
    → escaped (drop i name) ≡ take (i + n - i) (drop i name) ++ escaped (drop (i + n) name)
standing_at name i n stands some =
    let long : i + n - i ≡ n = omega arith in
    rw (long, ← drop-drop n i name) (escaped_standing (drop i name) n (omega arith) (sym stands))

-- .. and nothing behind the last byte.
pub escaped_end : (name : List ℕ) (i : ℕ) → length name ≤ i → escaped (drop i name) ≡ []
unfolding escaped_from
escaped_end name i past = rw (drop_of_length-le name past)

-- A byte is printed as at most four.
printed-length : (n b : ℕ) → length (printed n b) ≤ 4
printed-length zero b = omega arith
printed-length (suc n) b = omega arith

-- A name is printed as at most four bytes for each of its own.
from-length : (k : ℕ) (l : List ℕ) → length (escaped_from k l) ≤ 4 * length l
unfolding escaped_from
from-length k [] = omega arith
from-length zero (b ∷ l) =
    let n = standing (b ∷ l) in
    rw length-append (omega (arith, printed-length n b, from-length (n - 1) l))
from-length (suc k) (b ∷ l) = omega (arith, from-length k l)

-- Where there are four bytes for each, the name is printed and fits, ..
pub escaped_whole : (name : List ℕ) (room : ℕ) → 4 * length name ≤ room → escaped_in name room ≡ escaped name
escaped_whole name room enough = rw (le-leb (4 * length name) room enough)

pub escaped_fits : (name lent : List ℕ) → 4 * length name ≤ length lent → length (escaped name) ≤ length lent
escaped_fits name lent enough = omega (arith, from-length 0 name)

-- .. and where there are fewer, nothing is.
pub escaped_none : (name : List ℕ) (room : ℕ) → room < 4 * length name → escaped_in name room ≡ []
escaped_none name room few = rw (lt-leb (4 * length name) room few)
