-- Laws of the character that a list begins with: how its bytes are read one after another.
use Rattle.std.specs.Prelude.{◌≡◌, refl, Bool, true, false, cond, ◌&&◌, ◌||◌, List, [], ◌∷◌, ℕ, zero, suc, ◌+◌, ◌-◌, ◌*◌, ◌≤◌, ◌<◌, ltb, leb, length, get_or}
use Rattle.std.proofs.Common.{sym, ◌∙◌, true≢false, add-one, add_comm, arith, length-take, length-drop, drop_of_length-le, drop-cons, ltb-true, ltb-false, le-leb}
use Rattle.std.proofs.Math.Bool.{and-eq-true_iff}
use Rattle.std.proofs.Math.Arith.{le-zero}
use Rattle.std.proofs.Math.ListN.{take, drop}
use Rattle.std.proofs.lemmas.List.{get_or-take, get_or-drop}
use Rattle.std.proofs.lemmas.Bool.{lt-leb}
use Rattle.names.specs.declared.Lead.{Lead}
use Rattle.names.specs.Names.{within, lead_of, go_on, code_point, is_standing, standing}

-- A number that is neither below the one nor above the other is between them, ..
pub not_outside : (low high n : ℕ) → (ltb n low || ltb high n) ≡ false → (low ≤ n) × (n ≤ high)
not_outside low high n = go (ltb n low) (ltb high n) refl refl
  where
    go : (a b : Bool) → ltb n low ≡ a → ltb high n ≡ b → (a || b) ≡ false → (low ≤ n) × (n ≤ high)
    go false false below above e = (ltb-false n low below, ltb-false high n above)
    go false true below above e = absurd (true≢false e)
    go true b below above e = absurd (true≢false e)

-- .. and any other is not.
pub outside : (low high n : ℕ) → (ltb n low || ltb high n) ≡ true → within low high n ≡ false
outside low high n = go (ltb n low) (ltb high n) refl refl
  where
    both : (t : Bool) → (t && false) ≡ false
    both true = refl
    both false = refl

    go : (a b : Bool) → ltb n low ≡ a → ltb high n ≡ b → (a || b) ≡ true → within low high n ≡ false
    go true b below above e = rw (lt-leb low n (ltb-true n low below))
    go false true below above e = rw (lt-leb n high (ltb-true high n above)) (both (leb low n))
    go false false below above e = absurd (true≢false (sym e))

-- What a code point stays below while so many bytes of it, of at most three, are still to come.
abbrev limit : ℕ → ℕ
limit zero = 0x200000
limit (suc zero) = 0x8000
limit (suc (suc zero)) = 0x200
limit (suc (suc (suc n))) = 8

-- A character is being read, whose first byte is known and behind it stands l: it has come to index i of the name, with
-- so many bytes still to come and so much of the code point.
pub record Reading (first : Lead) (l name : List ℕ) (i further point : ℕ) : Type 0 where
  pub goes : go_on (first.size - 1) l ≡ go_on further (drop i name)
  pub spells : code_point first.bits (first.size - 1) l ≡ code_point point further (drop i name)
  pub few : further ≤ 3
  pub small : point < limit further

-- What a first byte gives is small.
record Small (first : Lead) : Type 0 where
  few : first.size - 1 ≤ 3
  small : first.bits < limit (first.size - 1)

either : (t : Bool) {a b : Lead} → (t ≡ true → Small a) → (t ≡ false → Small b) → Small (cond t a b)
either true one other = one refl
either false one other = other refl

lead_small : (b : ℕ) → Small (lead_of b)
unfolding lead_of
lead_small b =
    either (ltb b 0x80) (λ e. omega (arith, ltb-true b 0x80 e))
    (λ _. either (ltb b 0xc0) (λ _. omega arith)
    (λ _. either (ltb b 0xe0) (λ e. omega (arith, ltb-true b 0xe0 e))
    (λ _. either (ltb b 0xf0) (λ e. omega (arith, ltb-true b 0xf0 e))
    (λ _. either (ltb b 0xf8) (λ e. omega (arith, ltb-true b 0xf8 e)) (λ _. omega arith)))))

-- Each byte that goes on gives six bits more.
point_more : (further point b : ℕ) → 0 < further → further ≤ 3 → point < limit further → b ≤ 0xbf
    → 64 * point + (b - 0x80) < limit (further - 1)
point_more zero point b some few small most = absurd (omega arith)
point_more (suc zero) point b some few small most = omega arith
point_more (suc (suc zero)) point b some few small most = omega arith
point_more (suc (suc (suc zero))) point b some few small most = omega arith
point_more (suc (suc (suc (suc n)))) point b some few small most = absurd (omega arith)

-- So a code point to which bytes are still to come has room for six bits more.
pub point_fits : (further point : ℕ) → 0 < further → point < limit further → point < 0x8000
point_fits zero point some small = absurd (omega arith)
point_fits (suc zero) point some small = omega arith
point_fits (suc (suc zero)) point some small = omega arith
point_fits (suc (suc (suc n))) point some small = omega arith

-- One byte more.
goes_more : (further i : ℕ) (name : List ℕ) → 0 < further → i < length name
    → go_on further (drop i name) ≡ (within 0x80 0xbf (get_or name i 0) && go_on (further - 1) (drop (i + 1) name))
unfolding go_on
goes_more zero i name some inside = absurd (omega arith)
goes_more (suc n) i name some inside =
    let one : suc n - 1 ≡ n = omega arith in
    rw (add-one, one, drop-cons name i 0 inside)

spells_more : (point further i : ℕ) (name : List ℕ) → 0 < further → i < length name
    → code_point point further (drop i name)
    ≡ code_point (64 * point + (get_or name i 0 - 0x80)) (further - 1) (drop (i + 1) name)
unfolding code_point
spells_more point zero i name some inside = absurd (omega arith)
spells_more point (suc n) i name some inside =
    let one : suc n - 1 ≡ n = omega arith in
    rw (add-one, one, drop-cons name i 0 inside)

-- No byte where one is to come.
goes_nowhere : (further i : ℕ) (name : List ℕ) → 0 < further → length name ≤ i → go_on further (drop i name) ≡ false
unfolding go_on
goes_nowhere zero i name some past = absurd (omega arith)
goes_nowhere (suc n) i name some past = rw (drop_of_length-le name past)

module _ {first : Lead} {l name : List ℕ} {i further point : ℕ} (reading : Reading first l name i further point) where
  -- A byte that goes on is read, ..
  pub reading_more : 0 < further → i < length name → (ltb (get_or name i 0) 0x80 || ltb 0xbf (get_or name i 0)) ≡ false
      → Reading first l name (i + 1) (further - 1) (64 * point + (get_or name i 0 - 0x80))
  reading_more some inside inner =
      let between = not_outside 0x80 0xbf (get_or name i 0) inner in
      let few = reading.few in
      record {
        goes =
            reading.goes ∙
            (goes_more further i name some inside ∙
            rw (le-leb 0x80 (get_or name i 0) between.0, le-leb (get_or name i 0) 0xbf between.1));
        spells = reading.spells ∙ spells_more point further i name some inside;
        few = omega arith;
        small = point_more further point (get_or name i 0) some few reading.small between.1;
      }

  -- .. any other ends the reading, ..
  pub reading_broken : 0 < further → i < length name → (ltb (get_or name i 0) 0x80 || ltb 0xbf (get_or name i 0)) ≡ true
      → go_on (first.size - 1) l ≡ false
  reading_broken some inside outer =
      reading.goes ∙ (goes_more further i name some inside ∙ rw (outside 0x80 0xbf (get_or name i 0) outer))

  -- .. and so does the end of the name.
  pub reading_ended : 0 < further → length name ≤ i → go_on (first.size - 1) l ≡ false
  reading_ended some past = reading.goes ∙ goes_nowhere further i name some past

-- No byte stands where there is none, whatever is tested.
neither : (t : Bool) {n : ℕ} → n ≡ 0 → 0 ≡ cond t n 0
neither true none = sym none
neither false none = refl

-- The character at an index of a name, whose first byte is known.
module _ (name : List ℕ) (at : ℕ) {first : Lead} (inside : at < length name)
    (led : first ≡ lead_of (get_or name at 0)) where
  begun : drop at name ≡ get_or name at 0 ∷ drop (at + 1) name
  begun = rw add-one (drop-cons name at 0 inside)

  -- Its reading begins behind the first byte.
  pub reading_begun : Reading first (drop (at + 1) name) name (at + 1) (first.size - 1) first.bits
  reading_begun =
      let small = lead_small (get_or name at 0) in
      record { goes = refl; spells = refl; few = rw led small.few; small = rw led small.small }

  -- It is none where no byte begins it, ..
  pub none_begun : first.size ≡ 0 → 0 ≡ standing (drop at name)
  unfolding standing
  none_begun none =
      let l = drop (at + 1) name in
      let further = first.size - 1 in
      rw (begun, ← led)
      (neither (go_on further l && is_standing first.least (code_point first.bits further l)) none)

  -- .. and where the bytes do not go on.
  pub none_stands : go_on (first.size - 1) (drop (at + 1) name) ≡ false → 0 ≡ standing (drop at name)
  unfolding standing
  none_stands broken = rw (begun, ← led, broken)

  -- Else it is tested.
  pub standing_tested : {i further point : ℕ} (t : Bool) → Reading first (drop (at + 1) name) name i further point
      → further ≤ 0 → is_standing first.least point ≡ t → cond t first.size 0 ≡ standing (drop at name)
  unfolding standing go_on code_point
  standing_tested t reading none e =
      let read = rw (le-zero none) at reading in
      rw (begun, ← led, read.goes, read.spells, e)

-- Bytes that go on are there, ..
goes-length : (n : ℕ) (l : List ℕ) → go_on n l ≡ true → n ≤ length l
unfolding go_on
goes-length zero l e = omega arith
goes-length (suc n) [] e = absurd (true≢false (sym e))
goes-length (suc n) (b ∷ l) e = omega (arith, goes-length n l ((and-eq-true_iff (within 0x80 0xbf b) (go_on n l)).0 e).1)

-- .. and so are those of a character that stands as it is.
pub standing-length : (l : List ℕ) → standing l ≤ length l
unfolding standing
standing-length [] = omega arith
standing-length (b ∷ l) = go (go_on further l) (is_standing first.least (code_point first.bits further l)) refl
  where
    first : Lead
    first = lead_of b

    further : ℕ
    further = first.size - 1

    go : (t u : Bool) → go_on further l ≡ t → cond (t && u) first.size 0 ≤ suc (length l)
    go true true e = omega (arith, goes-length further l e)
    go true false e = omega arith
    go false u e = omega arith

-- So no bytes go on where there are fewer.
pub goes_short : (n : ℕ) (l : List ℕ) → length l < n → go_on n l ≡ false
goes_short n l few = go (go_on n l) refl
  where
    go : (t : Bool) → go_on n l ≡ t → t ≡ false
    go true e = absurd (omega (arith, goes-length n l e))
    go false e = refl

-- The bytes from the second to a last one are at the places behind theirs.
pub further_at : (text items : List ℕ) (size k : ℕ) → items ≡ take (size - 1) (drop 1 text) → k < length items
    → get_or items k 0 ≡ get_or text (k + 1) 0
further_at text items size k e inside =
    let few = rw (e, length-take) at inside in
    rw (e, get_or-take (size - 1) (drop 1 text) k 0 (omega arith), get_or-drop 1 text k 0, add_comm 1 k)

-- No text begins with no character.
pub none_empty : (l : List ℕ) → length l ≡ 0 → standing l ≡ 0
unfolding standing
none_empty [] none = refl
none_empty (b ∷ l) none = absurd (omega arith)

-- They end within the name.
pub standing_inside : (name : List ℕ) (i n : ℕ) → i < length name → n ≡ standing (drop i name) → i + n ≤ length name
standing_inside name i n inside e = omega (arith, e, rw length-drop at (standing-length (drop i name)))

-- A character that stands as it is has as many bytes as its first says, they go on, and it passes the tests.
pub record Stands (b : ℕ) (l : List ℕ) (m : ℕ) : Type 0 where
  pub size : (lead_of b).size ≡ suc m
  pub goes : go_on m l ≡ true
  pub passes : is_standing (lead_of b).least (code_point (lead_of b).bits m l) ≡ true

pub stands_tested : (b : ℕ) (l : List ℕ) (m : ℕ) → standing (b ∷ l) ≡ suc m → Stands b l m
unfolding standing
stands_tested b l m = go (go_on further l) (is_standing first.least (code_point first.bits further l)) refl refl
  where
    first : Lead
    first = lead_of b

    further : ℕ
    further = first.size - 1

    go : (t u : Bool) → go_on further l ≡ t → is_standing first.least (code_point first.bits further l) ≡ u
        → cond (t && u) first.size 0 ≡ suc m → Stands b l m
    go true true goes passes e =
        let same : further ≡ m = omega arith in
        record { size = e; goes = rw same at goes; passes = rw same at passes }
    go true false goes passes e = absurd (omega arith)
    go false u goes passes e = absurd (omega arith)
