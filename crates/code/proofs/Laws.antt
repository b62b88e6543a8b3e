-- What holds of the published code as a whole: the word of an index, the ends of the order, turned words and bridged words.
use Rattle.std.specs.Prelude.{◌≡◌, true, false, List, reverse, ℕ, zero, suc, ◌-◌, ◌<◌, replicate}
use Rattle.std.proofs.Common.{sym, ◌∙◌, le_refl, sub-one, arith, lt-ltb, le-ltb}
use Rattle.std.proofs.lemmas.List.{length-reverse, length-replicate}
use Rattle.patterns.specs.Stream.{filled, stream_of}
use Rattle.patterns.proofs.OccursLaws.{turned_free}
use Rattle.patterns.proofs.FreeLaws.{top_run_free, zero_run_free}
use Rattle.patterns.proofs.StreamLaws.{stream_free}
use Rattle.listing.specs.Every.{every}
use Rattle.listing.specs.Listing.{before}
use Rattle.listing.proofs.Order.{index_keeps_order, index_injective, index_below_count, lower_index_before}
use Rattle.listing.proofs.Inverse.{exactly_one, index_has_word, word_keeps_order}
use Rattle.listing.proofs.Limits.{zeros_first, tops_last}
use Rattle.listing.specs.EveryLaws.{every-reverse, every-replicate}
use Rattle.code.specs.Code.{published, legal, LegalWord, N, index, word, OneWord}

-- For each i below N(m) there is exactly one legal word with i legal words before it, and settling the leftmost level first finds it.
pub one_word_of_index : (q x m i : ℕ) → i < N q x m → OneWord q x m i
unfolding N index word
one_word_of_index q x m i l =
    let one = exactly_one q (legal q x) m i l in
    record { found = one.0.word; its_index = one.0.index; only = λ w r e. one.1 w (record { word = r; index = e }) }

-- A legal word's index is below N(m).
pub index_below-N : (q x m : ℕ) (w : List ℕ) → LegalWord q x m w → index q x w < N q x m
unfolding N index
index_below-N q x m w r = index_below_count q (legal q x) m w r

-- The word of a legal word's index is that word.
pub word_of_index_of_word : (q x m : ℕ) (w : List ℕ) → LegalWord q x m w → word q x m (index q x w) ≡ w
unfolding index word
word_of_index_of_word q x m w r = index_has_word q (legal q x) m w r

-- The earlier word has the lower index, and the lower index the earlier word.
pub index_in_order : (q x m : ℕ) (v w : List ℕ) → LegalWord q x m v → LegalWord q x m w → before v w ≡ true → index q x v < index q x w
unfolding index
index_in_order q x m v w = index_keeps_order q (legal q x) m v w

pub lower_index_first : (q x m : ℕ) (v w : List ℕ) → LegalWord q x m v → LegalWord q x m w → index q x v < index q x w → before v w ≡ true
unfolding index
lower_index_first q x m v w = lower_index_before q (legal q x) m v w

pub word_in_order : (q x m i j : ℕ) → i < j → j < N q x m → before (word q x m i) (word q x m j) ≡ true
unfolding N word
word_in_order q x m i j = word_keeps_order q (legal q x) m i j

-- The middle set is without top, and 0 is not top.
top_not_between : (q x : ℕ) → (published q x).middle (published q x).top ≡ false
top_not_between q x = le-ltb (q - 1) (q - 1) (le_refl (q - 1))

zero_not_top : (q x : ℕ) → 1 < q → 0 < (published q x).top
zero_not_top q x l = omega arith

-- The word of all 0 is legal, has index 0, and is the only one that has.
pub zeros_legal : (q x m : ℕ) → 1 < q → LegalWord q x m (replicate m 0)
unfolding legal
zeros_legal q x m l = record {
  cells = length-replicate m 0;
  levelled = every-replicate _ m 0 (lt-ltb 0 q (omega arith));
  passes = zero_run_free (published q x) (top_not_between q x) (zero_not_top q x l) m;
}

pub zeros_index : (q x m : ℕ) → index q x (replicate m 0) ≡ 0
unfolding index
zeros_index q x m = zeros_first q (legal q x) m

pub zeros_only : (q x m : ℕ) (w : List ℕ) → 1 < q → LegalWord q x m w → index q x w ≡ 0 → w ≡ replicate m 0
unfolding index
zeros_only q x m w l r e = index_injective q (legal q x) m w (replicate m 0) r (zeros_legal q x m l) (e ∙ sym (zeros_first q (legal q x) m))

-- The word of all top is legal, and has index N(m) - 1.
pub tops_legal : (q x m : ℕ) → legal q x (replicate m (q - 1)) ≡ true
unfolding legal
tops_legal q x m = top_run_free (published q x) (top_not_between q x) m

pub tops_index : (q x m : ℕ) → 0 < q → index q x (replicate m (q - 1)) ≡ N q x m - 1
unfolding N index
tops_index zero x m l = absurd (omega arith)
tops_index (suc t) x m l =
    let e = tops_last t (legal (suc t) x) m (rw sub-one at (tops_legal (suc t) x m)) in rw (sub-one (suc t)) (omega arith)

-- A legal word turned is a legal word.
pub turned_legal : (q x m : ℕ) (w : List ℕ) → LegalWord q x m w → LegalWord q x m (reverse w)
unfolding legal
turned_legal q x m w r = record {
  cells = length-reverse w ∙ r.cells;
  levelled = every-reverse _ w ∙ r.levelled;
  passes = turned_free (published q x) w ∙ r.passes;
}

-- A stream of legal words has no forbidden pattern throughout.
pub stream_legal : (q x : ℕ) (words : List (List ℕ)) → 1 < q → every filled words ≡ true → every (legal q x) words ≡ true
    → legal q x (stream_of (published q x) words) ≡ true
unfolding legal
stream_legal q x words l = stream_free (published q x) (top_not_between q x) (zero_not_top q x l) words
