-- The parts of an index_behind: what one cell of an open stretch, a whole guarded stretch or a top behind a top adds, as a multiple of one row.
use Rattle.std.specs.Prelude.{◌≡◌, refl, Bool, true, false, cond, List, [], ◌∷◌, ℕ, zero, suc, ◌+◌, ◌-◌, ◌*◌, ◌^◌, ◌≤◌, ◌<◌, ltb, leb, length, take, drop}
use Rattle.std.proofs.Common.{◌∙◌, sym, mul_assoc, mul_comm, mul_left_comm, mul-one, one-mul, pow-suc, le_refl, sub-one, arith, length-drop, lt-ltb, ltb-true, ltb-false, le-leb}
use Rattle.std.proofs.Math.Bool.{and-eq-true_iff}
use Rattle.std.proofs.Math.Nat.{sub_self}
use Rattle.std.proofs.Math.Seq.{drop-length}
use Rattle.std.proofs.lemmas.Bool.{lt-leb}
use Rattle.patterns.specs.Walk.{walk, top_may_stand}
use Rattle.patterns.proofs.WalkLaws.{top_may_stand_fresh}
use Rattle.listing.specs.Listing.{all_below}
use Rattle.listing.proofs.Order.{rest_below}
use Rattle.code.specs.Code.{below_top}
use Rattle.code.specs.Stretches.{following}
use Rattle.code.proofs.Stretches.{following_none, following_guarded, following_weight, walk_low, walk_top}
use Rattle.index_of_word.specs.IndexBehind.{index_behind, digits, guarded_cells, guarded_row, guarded_factor, index_behind_none, index_behind_low, index_behind_top}
use Rattle.index_of_word.specs.IndexBehind.{first_low, guarded_low, walk_past_low, walk_after, index_behind_after, guarded_levels}

-- Each cell is below q, and may stand where it stands.
pub record Walks (t x g : ℕ) (w : List ℕ) : Type 0 where
  pub levelled : all_below (suc t) w ≡ true
  pub stands : walk (below_top t x) g w ≡ true

-- From the cells v with the guard g to those of w with the guard h, which are fewer, the index behind them falls by `part`.
pub record Part (t x g : ℕ) (v : List ℕ) (h : ℕ) (w : List ℕ) (part : ℕ) : Type 0 where
  pub falls : index_behind t x g v ≡ part + index_behind t x h w
  pub walks : Walks t x h w
  pub shorter : length w < length v

-- What the number of the guarded cells behind a top adds, where the top has `left` cells behind it.
abbrev pub guarded_part : ℕ → ℕ → ℕ → ℕ → ℕ
guarded_part t x left number = following t x 0 (guarded_row x left) * (number * guarded_factor t x left)

turned : (d t f : ℕ) → d * (t * f) ≡ f * (d * t)
turned d t f = rw (← mul_assoc, mul_comm (d * t) f)

below-drop : (q j : ℕ) (w : List ℕ) → all_below q w ≡ true → all_below q (drop j w) ≡ true
below-drop q zero w b = b
below-drop q (suc j) [] b = refl
below-drop q (suc j) (a ∷ w) b = below-drop q j w (rest_below q a w b)

module _ (t x : ℕ) where
  -- A cell below top in an open stretch.
  pub open_low : (a : ℕ) (w : List ℕ) → Walks t x 0 (a ∷ w) → (a ≡ t → ⊥) → Part t x 0 (a ∷ w) 0 w (following t x 0 (length w) * a)
  open_low a w s n =
      let low = first_low t x a w s.levelled n in
      record {
        falls = index_behind_low t x 0 a w low ∙ rw (mul_comm a (following t x 0 (length w)));
        walks = record { levelled = rest_below (suc t) a w s.levelled; stands = sym (walk_low t x 0 a w low) ∙ s.stands };
        shorter = omega arith;
      }

  behind_top : (g : ℕ) (w : List ℕ) → Walks t x g (t ∷ w) → Walks t x (suc x) w
  behind_top g w s = record {
    levelled = rest_below (suc t) t w s.levelled;
    stands = ((and-eq-true_iff (top_may_stand (below_top t x) g) _).0 (sym (walk_top t x g w) ∙ s.stands)).1;
  }

  -- A top in an open stretch.
  pub open_top : (w : List ℕ) → Walks t x 0 (t ∷ w) → Part t x 0 (t ∷ w) (suc x) w (following t x 0 (length w) * t)
  open_top w s = record {
    falls = index_behind_top t x 0 w refl ∙ rw (mul_comm t (following t x 0 (length w)));
    walks = behind_top 0 w s;
    shorter = omega arith;
  }

  -- A top behind a top.
  weight_behind_top : (i : ℕ) → t * following t x x i ≡ guarded_part t x (suc i) (t ^ guarded_cells x (suc i))
  weight_behind_top i = rw (following_weight t x x i (le_refl x)) (go (ltb x (suc i)) refl)
    where
      go : (b : Bool) → ltb x (suc i) ≡ b
          → t * cond (leb x i) (t ^ x * following t x 0 (i - x)) (t ^ i) ≡ following t x 0 (suc i - x - 1) * (t ^ cond b x (suc i) * cond b t 1)
      go true e =
          let l = ltb-true x (suc i) e in
          let r : suc i - x - 1 ≡ i - x = omega arith in
          rw (le-leb x i (omega arith), r) (mul_left_comm t (t ^ x) _ ∙ turned (t ^ x) t _)
      go false e =
          let l = ltb-false x (suc i) e in
          let r : suc i - x - 1 ≡ 0 = omega arith in
          rw (lt-leb x i (omega arith), r, following_none t x 0, mul-one, one-mul, pow-suc t i) (mul_comm t (t ^ i))

  pub guarded_top : (w : List ℕ) → Walks t x (suc x) (t ∷ w)
      → Part t x (suc x) (t ∷ w) (suc x) w (guarded_part t x (suc (length w)) (t ^ guarded_cells x (suc (length w))))
  guarded_top w s = record {
    falls = index_behind_top t x (suc x) w (top_may_stand_fresh (below_top t x)) ∙ rw (sub-one, weight_behind_top (length w));
    walks = behind_top (suc x) w s;
    shorter = omega arith;
  }

walk_none : (t x g : ℕ) → walk (below_top t x) g [] ≡ true
unfolding walk
walk_none t x g = refl

-- A guarded stretch of the cell a, which is below top, and those of w behind it, of which j are guarded.
module _ (t x a j : ℕ) (w : List ℕ) (s : Walks t x (suc x) (a ∷ w)) (low : a < t) (l : j ≤ x) where
  walks_on : walk (below_top t x) x w ≡ true
  walks_on = rw sub-one at (sym (walk_low t x (suc x) a w low) ∙ s.stands)

  rest_low : all_below t (take j w) ≡ true
  rest_low = guarded_low t x x j w l (le_refl x) (rest_below (suc t) a w s.levelled) walks_on

  rest_levelled : all_below (suc t) (drop j w) ≡ true
  rest_levelled = below-drop (suc t) j w (rest_below (suc t) a w s.levelled)

  rest_walks : walk (below_top t x) (x - j) (drop j w) ≡ true
  rest_walks = sym (walk_past_low t x x j w l rest_low) ∙ walks_on

  levels_part : j ≤ length w → index_behind t x (suc x) (a ∷ w)
      ≡ digits t 0 (take (suc j) (a ∷ w)) * following t x (x - j) (length w - j) + index_behind t x (x - j) (drop j w)
  levels_part k = rw (← length-drop j w) (guarded_levels t x a j w low l k rest_low)

-- The guarded cells are below top.
pub guarded_levels_low : (t x k a : ℕ) (w : List ℕ) → k ≤ x → Walks t x (suc x) (a ∷ w) → a < t → all_below t (take k (a ∷ w)) ≡ true
guarded_levels_low t x zero a w l s low = refl
guarded_levels_low t x (suc j) a w l s low = rw (lt-ltb a t low) (rest_low t x a j w s low (omega arith))

-- Guarded cells from the first one behind a top, which is below top, to the last: all use the same row.
pub guarded_levels_part : (t x a : ℕ) (w : List ℕ) → 0 < x → Walks t x (suc x) (a ∷ w) → a < t
    → Part t x (suc x) (a ∷ w) 0 (drop (guarded_cells x (suc (length w))) (a ∷ w))
    (guarded_part t x (suc (length w)) (digits t 0 (take (guarded_cells x (suc (length w))) (a ∷ w))))
guarded_levels_part t zero a w o s low = absurd (omega arith)
guarded_levels_part t (suc y) a w o s low = go (ltb (suc y) (suc (length w))) refl
  where
    go : (b : Bool) → ltb (suc y) (suc (length w)) ≡ b
        → Part t (suc y) (suc (suc y)) (a ∷ w) 0 (drop (cond b (suc y) (suc (length w))) (a ∷ w))
        (following t (suc y) 0 (suc (length w) - suc y - 1) * (digits t 0 (take (cond b (suc y) (suc (length w))) (a ∷ w)) * cond b t 1))
    go true e =
        let l = ltb-true (suc y) (suc (length w)) e in
        let one : suc y - y ≡ 1 = omega arith in
        let row : length w - y ≡ suc (suc (length w) - suc y - 1) = omega arith in
        let j : y ≤ suc y = omega arith in
        let walks = rw one at (rest_walks t (suc y) a y w s low j) in
        let levelled = rest_levelled t (suc y) a y w s low j in
        record {
          falls = levels_part t (suc y) a y w s low j (omega arith)
              ∙ rw (one, row, following_guarded t (suc y) 0 (suc (length w) - suc y - 1) (omega arith), turned)
              (rw (index_behind_after t (suc y) (drop y w) o levelled walks));
          walks = record { levelled = levelled; stands = walk_after t (suc y) (drop y w) o levelled walks };
          shorter = rw length-drop (omega arith);
        }
    go false e =
        let l = ltb-false (suc y) (suc (length w)) e in
        let row : suc (length w) - suc y - 1 ≡ 0 = omega arith in
        let j : length w ≤ suc y = omega arith in
        let part = levels_part t (suc y) a (length w) w s low j (le_refl (length w)) in
        record {
          falls = part
              ∙ rw (row, drop-length w, sub_self, following_none t (suc y) 0, following_none t (suc y) (suc y - length w), mul-one, one-mul)
              (rw (index_behind_none t (suc y) (suc y - length w), index_behind_none t (suc y) 0));
          walks = rw drop-length (record { levelled = refl; stands = walk_none t (suc y) 0 });
          shorter = rw length-drop (omega arith);
        }
