-- Counting by the first cell: how many words pass a test, and how many of those stand before a word.
use Rattle.std.specs.Prelude.{◌≡◌, refl, Bool, true, false, ◌&&◌, ◌||◌, List, [], ◌∷◌, ◌++◌, map, ℕ, suc, ◌+◌, ◌<◌, ltb, eqb, length}
use Rattle.std.proofs.Common.{ap, ap₂, ◌∙◌, sym, le_refl, arith, length-append, lt-ltb, le-ltb, ne_eqb, eq-eqb}
use Rattle.std.proofs.Math.Path.{fun_ext}
use Rattle.std.proofs.Math.Bool.{and-true, and-false}
use Rattle.listing.specs.Listing.{levels, behind_each, all_words, keep_if, passing, listed, count_of, before, index_in, behind}
use Rattle.listing.specs.Sums.{sum_below, sum_over, sum_levels, sum_same, sum_ends}

keep_append : (b : Bool) (v : List ℕ) (xs ys : List (List ℕ)) → keep_if b v (xs ++ ys) ≡ keep_if b v xs ++ ys
keep_append true v xs ys = refl
keep_append false v xs ys = refl

passing-append : (p : List ℕ → Bool) (xs ys : List (List ℕ)) → passing p (xs ++ ys) ≡ passing p xs ++ passing p ys
passing-append p [] ys = refl
passing-append p (v ∷ xs) ys = ap (keep_if (p v) v) (passing-append p xs ys) ∙ keep_append (p v) v (passing p xs) (passing p ys)

keep_first : (b : Bool) (v w : List ℕ) (xs ys : List (List ℕ)) → length xs ≡ length ys → length (keep_if b v xs) ≡ length (keep_if b w ys)
keep_first true v w xs ys e = ap suc e
keep_first false v w xs ys e = e

-- How many of the words that begin with c pass p.
count_first : (p : List ℕ → Bool) (c : ℕ) (words : List (List ℕ)) → length (passing p (map (λ v. c ∷ v) words)) ≡ length (passing (behind c p) words)
count_first p c [] = refl
count_first p c (v ∷ words) = keep_first (p (c ∷ v)) (c ∷ v) v _ _ (count_first p c words)

count_each : (p : List ℕ → Bool) (cs : List ℕ) (words : List (List ℕ)) → length (passing p (behind_each cs words)) ≡ sum_over (λ c. length (passing (behind c p) words)) cs
count_each p [] words = refl
count_each p (c ∷ cs) words =
    ap length (passing-append p (map (λ v. c ∷ v) words) (behind_each cs words)) ∙ length-append (passing p (map (λ v. c ∷ v) words)) _
    ∙ ap₂ (λ (a b : ℕ). a + b) (count_first p c words) (count_each p cs words)

-- The words that pass are, for each level, those that pass behind it.
pub count_by_first : (q : ℕ) (p : List ℕ → Bool) (m : ℕ) → count_of q p (suc m) ≡ sum_below (λ c. count_of q (behind c p) m) q
unfolding count_of listed all_words
count_by_first q p m = count_each p (levels q) (all_words q m) ∙ sum_levels _ q

keep_both : (a b : Bool) (v : List ℕ) (r : List ℕ → Bool) (words : List (List ℕ)) → r v ≡ b → passing r (keep_if a v words) ≡ keep_if (a && b) v (passing r words)
keep_both true b v r words e = rw e
keep_both false b v r words e = refl

-- Passing one test after another is passing both.
passing_both : (p r : List ℕ → Bool) (words : List (List ℕ)) → passing r (passing p words) ≡ passing (λ v. p v && r v) words
passing_both p r [] = refl
passing_both p r (v ∷ words) = keep_both (p v) (r v) v r (passing p words) refl ∙ ap (keep_if (p v && r v) v) (passing_both p r words)

-- The index counts the words that pass and stand before.
pub index_counts : (q : ℕ) (p : List ℕ → Bool) (w : List ℕ) → index_in q p w ≡ count_of q (λ v. p v && before v w) (length w)
unfolding index_in count_of listed
index_counts q p w = ap length (passing_both p (λ v. before v w) (all_words q (length w)))

passing_none : (words : List (List ℕ)) → length (passing (λ v. false) words) ≡ 0
passing_none [] = refl
passing_none (v ∷ words) = passing_none words

-- No word passes the test that nothing passes.
pub count_none : (q m : ℕ) → count_of q (λ v. false) m ≡ 0
unfolding count_of listed
count_none q m = passing_none (all_words q m)

-- The same words pass tests that agree on every word.
pub count_same : (q : ℕ) (p r : List ℕ → Bool) (m : ℕ) → ((v : List ℕ) → p v ≡ r v) → count_of q p m ≡ count_of q r m
count_same q p r m h = ap (λ (t : List ℕ → Bool). count_of q t m) (fun_ext h)

-- The leftmost level decides, and where it is the same the rest.
pub before_cons : (a b : ℕ) (v w : List ℕ) → before (a ∷ v) (b ∷ w) ≡ (ltb a b || (eqb a b && before v w))
unfolding before
before_cons a b v w = refl

-- Of the words with the first cell c, those before (a ∷ w) are all if c is below a, none if c is above a, and those before w if c is a.
module _ (q : ℕ) (p : List ℕ → Bool) (a : ℕ) (w : List ℕ) where
  abbrev first_is : ℕ → ℕ
  first_is c = count_of q (behind c (λ v. p v && before v (a ∷ w))) (length w)

  lower_first : (c : ℕ) → c < a → first_is c ≡ count_of q (behind c p) (length w)
  lower_first c l = count_same q _ _ _ (λ v. rw (before_cons, lt-ltb c a l) (and-true _))

  higher_first : (c : ℕ) → a < c → first_is c ≡ 0
  higher_first c l =
      count_same q _ (λ v. false) _ (λ v. rw (before_cons, le-ltb c a (omega arith), ne_eqb c a (omega arith)) (and-false (p (c ∷ v)))) ∙ count_none q _

  same_first : first_is a ≡ index_in q (behind a p) w
  same_first =
      count_same q _ (λ v. behind a p v && before v w) _ (λ v. rw (before_cons, le-ltb a a (le_refl a), eq-eqb a a refl) refl)
      ∙ sym (index_counts q (behind a p) w)

-- The index by the first cell: all words with a lower first level, and those with the same one whose rest stands before the rest.
pub index_by_first : (q : ℕ) (p : List ℕ → Bool) (a : ℕ) (w : List ℕ) → a < q
    → index_in q p (a ∷ w) ≡ sum_below (λ c. count_of q (behind c p) (length w)) a + index_in q (behind a p) w
index_by_first q p a w l =
    index_counts q p (a ∷ w) ∙ count_by_first q _ (length w) ∙ sum_ends (first_is q p a w) a q l (higher_first q p a w)
    ∙ ap₂ (λ (x y : ℕ). x + y) (sum_same _ _ a (lower_first q p a w)) (same_first q p a w)

-- A word that nothing stands before has index 0.
pub index_first : (q : ℕ) (p : List ℕ → Bool) (w : List ℕ) → ((v : List ℕ) → before v w ≡ false) → index_in q p w ≡ 0
index_first q p w h = index_counts q p w ∙ count_same q _ (λ v. false) _ (λ v. rw (h v) (and-false (p v))) ∙ count_none q _
