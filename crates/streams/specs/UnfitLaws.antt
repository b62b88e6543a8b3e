-- Number 7 as it is tested: by the most cells that fit, and by the remainder of m + x cells a word.
use Rattle.std.specs.Prelude.{◌≡◌, refl, Bool, true, false, not, ◌||◌, ℕ, zero, suc, ◌+◌, ◌*◌, ◌/◌, ◌%◌, ◌<◌, ltb, eqb}
use Rattle.std.proofs.Common.{sym, div-add-mod', arith, ltb-true, lt-ltb, eqb-true, eq-eqb, ne_eqb}
use Rattle.std.proofs.lemmas.Bool.{eqb-false}
use Rattle.replies.specs.declared.Profile.{Profile}
use Rattle.replies.specs.Replies.{refused, refused_if}
use Rattle.replies.specs.Ranges.{InRange}
use Rattle.profiles.specs.Profiles.{stride, stream_length}
use Rattle.streams.specs.Streams.{words_in, fits_none, fit_refusal, both_fit_refusal}
use Rattle.streams.specs.FitLaws.{length_and_bridge, Fits, neither, not_refused_fits, few_cells, no_word}

-- No stream of at most 256 words has so many cells.
abbrev pub unfit : Profile → ℕ → Bool
unfit p cells = fits_none p cells || ltb 256 (words_in p cells)

-- What is not unfit fits.
not_unfit : (p : Profile) (cells : ℕ) → unfit p cells ≡ false → Fits p cells
not_unfit p cells e = not_refused_fits p cells refl (unfold fit_refusal in rw e)

-- More cells than 256 words with their bridges can have fit none.
pub too_many_unfit : (p : Profile) (cells : ℕ) → InRange p → 34816 < cells → true ≡ unfit p cells
too_many_unfit p cells range many = go (unfit p cells) refl
  where
    go : (b : Bool) → unfit p cells ≡ b → true ≡ b
    go true e = refl
    go false e = absurd (omega (arith, few_cells p cells range (not_unfit p cells e)))

-- No cells are the empty stream.
pub none_fit : (p : Profile) (cells : ℕ) → InRange p → cells ≡ 0 → false ≡ unfit p cells
none_fit p cells range e = rw (e, no_word p range, eq-eqb 0 (stream_length p 0) (omega arith))

same_test : (a b c d : ℕ) → (a ≡ b → c ≡ d) → (c ≡ d → a ≡ b) → eqb a b ≡ eqb c d
same_test a b c d there back = go (eqb a b) refl
  where
    go : (t : Bool) → eqb a b ≡ t → t ≡ eqb c d
    go true e = sym (eq-eqb c d (there (eqb-true a b e)))
    go false e = sym (ne_eqb c d (λ f. eqb-false a b e (back f)))

-- With a bridge behind the last word the cells of a stream, and no others, would be m + x a word.
whole_words : (p : Profile) (cells : ℕ) → 0 < cells → eqb ((cells + p.x) % stride p) 0 ≡ eqb cells (stream_length p (words_in p cells))
unfolding words_in
whole_words p cells some = go ((cells + p.x) / stride p) ((cells + p.x) % stride p) (div-add-mod' (cells + p.x) (stride p))
  where
    go : (n r : ℕ) → n * stride p + r ≡ cells + p.x → eqb r 0 ≡ eqb cells (stream_length p n)
    go zero r e = same_test r 0 cells (stream_length p 0) (λ f. absurd (omega arith)) (λ f. absurd (omega arith))
    go (suc n) r e =
        let all = length_and_bridge p n in
        same_test r 0 cells (stream_length p (suc n)) (λ f. omega arith) (λ f. omega arith)

-- So the remainder decides.
pub some_unfit : (p : Profile) (cells : ℕ) → (cells ≡ 0 → ⊥) → (not (eqb ((cells + p.x) % stride p) 0) || ltb 256 (words_in p cells)) ≡ unfit p cells
some_unfit p cells some = rw (whole_words p cells (omega arith))

-- Where none of two is unfit, both fit.
pub both_fit : (p : Profile) (a b : ℕ) → (unfit p a || unfit p b) ≡ false → Fits p a × Fits p b
both_fit p a b e = let both = neither _ _ e in (not_unfit p a both.0, not_unfit p b both.1)

-- One of two that is unfit decides, ..
pub one_unfit : (p : Profile) (a b : ℕ) → (unfit p a || unfit p b) ≡ true → refused 7 0 ≡ both_fit_refusal p a b
unfolding both_fit_refusal
one_unfit p a b e = go (fits_none p a) (fits_none p b) (ltb 256 (words_in p a)) (ltb 256 (words_in p b)) refl refl e
  where
    go : (s t u v : Bool) → ltb 256 (words_in p a) ≡ u → ltb 256 (words_in p b) ≡ v → ((s || u) || (t || v)) ≡ true
        → refused 7 0 ≡ refused_if (s || (t || ltb 256 (words_in p a + words_in p b))) 7
    go true t u v l k e = refl
    go false true u v l k e = refl
    go false false true v l k e = rw (lt-ltb 256 (words_in p a + words_in p b) (omega (arith, ltb-true 256 (words_in p a) l)))
    go false false false v l k e = rw (lt-ltb 256 (words_in p a + words_in p b) (omega (arith, ltb-true 256 (words_in p b) (rw e at k))))

-- .. and otherwise their words together decide.
pub both_counted : (p : Profile) (a b : ℕ) → Fits p a → Fits p b → refused_if (ltb 256 (words_in p a + words_in p b)) 7 ≡ both_fit_refusal p a b
unfolding both_fit_refusal
both_counted p a b f g = rw (eq-eqb _ _ f.exact, eq-eqb _ _ g.exact)
