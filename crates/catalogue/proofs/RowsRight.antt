-- The forty rows are right: one computed test over the list, carried to each row.
use Rattle.std.specs.Prelude.{◌≡◌, refl, Bool, true, ◌&&◌, List, [], ◌∷◌, map, ℕ, zero, suc, ◌-◌, ◌^◌, ◌≤◌, ◌<◌, ltb, leb, eqb, length, get_or}
use Rattle.std.proofs.Common.{ap₂, arith, pow_pos, ltb-true, leb-true, eqb-true}
use Rattle.std.proofs.Math.Bool.{and-eq-true_iff}
use Rattle.replies.specs.declared.Reply.{Reply}
use Rattle.replies.specs.Replies.{done, is_done, refused, or_else, outside_refusal, profile_refusal}
use Rattle.replies.specs.ReplyLaws.{profile_in_range}
use Rattle.listing.specs.Every.{every}
use Rattle.code.specs.Code.{N}
use Rattle.code.specs.Formulas.{counts_down_from, count_by_recursion}
use Rattle.code.specs.Messages.{words_kept_out, message_length, Largest}
use Rattle.code.proofs.MessageLaws.{length_is_largest}
use Rattle.code.proofs.Theorem1.{recursion_counts}
use Rattle.messages.specs.HighestBit.{one_largest}
use Rattle.catalogue.specs.declared.Published.{Published}
use Rattle.catalogue.specs.declared.rows.TheConstants.{PUBLISHED}
use Rattle.catalogue.specs.Catalogue.{row, published_rows, row_at, publishing}
use Rattle.catalogue.specs.RowsRight.{of_row, RowRight}

-- The test of a row: its reply, its profile, and 2^s against N(m) - 2 by theorem 1's recursion.
abbrev is_largest : ℕ → ℕ → Bool
is_largest n s = leb (2 ^ s) n && ltb n (2 ^ suc s)

abbrev answers : Reply → Bool
answers a = is_done a && eqb a.place 0

abbrev passes : Published → Bool
passes r = answers r.reply && (is_done (profile_refusal (of_row r)) && is_largest (count_by_recursion r.q r.x r.m - words_kept_out) r.s)

all_pass : every passes published_rows ≡ true
unfolding profile_refusal or_else outside_refusal count_by_recursion counts_down_from
all_pass = refl

largest : {n s : ℕ} → is_largest n s ≡ true → Largest n s
largest {n} {s} e = let both = (and-eq-true_iff _ _).0 e in record { fits = leb-true _ _ both.0; most = ltb-true _ _ both.1 }

answered : (a : Reply) → answers a ≡ true → a ≡ done
answered a e = let both = (and-eq-true_iff _ _).0 e in ap₂ refused (eqb-true _ _ both.0) (eqb-true _ _ both.1)

-- The largest s for the count by the recursion is the message length.
length_by_recursion : (q x m s : ℕ) → 0 < q → Largest (count_by_recursion q x m - words_kept_out) s → s ≡ message_length q x m
length_by_recursion q x m s l large =
    let counted : Largest (N q x m - words_kept_out) s = rw (recursion_counts q x m l) at large in
    let some = counted.fits in
    let positive = pow_pos s in
    one_largest counted (length_is_largest q x m (omega arith))

row_right_lem : (r : Published) → passes r ≡ true → RowRight r
row_right_lem r e =
    let first = (and-eq-true_iff _ _).0 e in
    let second = (and-eq-true_iff _ _).0 first.1 in
    let range = profile_in_range (of_row r) refl (eqb-true _ _ second.0) in
    let two = range.levels.least in
    record {
      answered = answered r.reply first.0;
      in_range = range;
      length_right = length_by_recursion r.q r.x r.m r.s (omega arith) (largest second.1);
    }

passes_at : (rows : List Published) → every passes rows ≡ true → (i : ℕ) → i < length rows → passes (row_at rows i) ≡ true
passes_at [] e i l = absurd (omega arith)
passes_at (r ∷ rows) e zero l = ((and-eq-true_iff (passes r) _).0 e).0
passes_at (r ∷ rows) e (suc i) l = passes_at rows ((and-eq-true_iff (passes r) _).0 e).1 i (omega arith)

-- Each of the forty rows is right.
pub rows_right : (i : ℕ) → i < 40 → RowRight (publishing i)
unfolding publishing
rows_right i l = row_right_lem (row_at published_rows i) (passes_at published_rows all_pass i l)

past_end : (rows : List Published) (i : ℕ) → length rows ≤ i → row_at rows i ≡ row_at [] i
past_end [] i l = refl
past_end (r ∷ rows) zero l = absurd (omega arith)
past_end (r ∷ rows) (suc i) l = past_end rows i (omega arith)

-- At or above 40 there is no row.
pub no_such_row : (i : ℕ) → 40 ≤ i → publishing i ≡ record { reply = refused 12 0; q = 0; x = 0; m = 0; s = 0 }
unfolding publishing
no_such_row i l = past_end published_rows i l

-- The rows of the constant, as the list has them.
numbers : List (ℕ × ℕ × ℕ × ℕ) → List Published
numbers = map (λ (r : ℕ × ℕ × ℕ × ℕ). row r.0 r.1 r.2 r.3)

row_read : (rows : List (ℕ × ℕ × ℕ × ℕ)) (i : ℕ) (r : ℕ × ℕ × ℕ × ℕ) → i < length rows → r ≡ get_or rows i r → row r.0 r.1 r.2 r.3 ≡ row_at (numbers rows) i
unfolding numbers
row_read [] i r l e = absurd (omega arith)
row_read (s ∷ rows) zero r l e = rw e
row_read (s ∷ rows) (suc i) r l e = row_read rows i r (omega arith) e

pub row_published : (i : ℕ) (r : ℕ × ℕ × ℕ × ℕ) → i < 40 → r ≡ get_or PUBLISHED i r → row r.0 r.1 r.2 r.3 ≡ publishing i
unfolding publishing numbers
row_published i r l e = row_read PUBLISHED i r l e
