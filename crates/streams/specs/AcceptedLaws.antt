-- The parts of a stream, and the words and bridges of which it is made.
use Rattle.std.specs.Prelude.{◌≡◌, Bool, true, false, cond, not, ◌&&◌, List, [], ◌∷◌, ◌++◌, ℕ, zero, suc, ◌+◌, ◌-◌, ◌≤◌, ◌<◌, ltb, eqb, take, drop, get_or, replicate}
use Rattle.std.proofs.Math.Path.{refl}
use Rattle.std.proofs.Common.{sym, ap, ◌∙◌, arith, take-append-drop, length-take, length-drop, take_all, length-take-le, take_at, drop_at, drop-drop, take-add, ext_get_or, lt-ltb, eqb-true, eq-eqb}
use Rattle.std.proofs.Math.Bool.{and-eq-true_iff, and-true}
use Rattle.std.proofs.Math.ListN.{length, length-replicate}
use Rattle.std.proofs.lemmas.Bool.{not-false}
use Rattle.replies.specs.declared.Profile.{Profile}
use Rattle.replies.specs.Replies.{or_else}
use Rattle.replies.specs.ReplyLaws.{both_done, none_refused, holds_nowhere}
use Rattle.replies.specs.LowestLaws.{moved_of_done, moved_done}
use Rattle.replies.specs.Ranges.{InRange}
use Rattle.listing.specs.Every.{every}
use Rattle.listing.specs.Listing.{all_below}
use Rattle.listing.specs.EveryLaws.{every_append, every_implies, every-replicate}
use Rattle.patterns.specs.Pattern.{Patterns}
use Rattle.patterns.specs.Stream.{bridge, first_cell, last_cell, has_length, stream_of}
use Rattle.patterns.proofs.StreamLaws.{stream-length}
use Rattle.profiles.specs.Profiles.{patterns_of, is_word, stride, stream_length, is_legal, LegalFor}
use Rattle.cells.specs.CellLaws.{cells_below, below_not_refused, cells_legal, legal_not_refused}
use Rattle.streams.specs.Streams.{Stream, words_in, first_words, words_of, bridge_in, right_bridge, bridge_refusal, part_refusal}
use Rattle.streams.specs.FitLaws.{length_step, words_of-length}
use Rattle.streams.specs.FromWords.{FromEach}

-- What 10, 11, 13 ask of the part from a word on.
pub record RightPart (p : Profile) (part : List ℕ) : Type 0 where
  levelled : all_below p.q (take (stride p) part) ≡ true
  passes : is_legal p (take p.m part) ≡ true
  bridged : (i : ℕ) → i < length (bridge_in p part) → get_or (bridge_in p part) i 0 ≡ get_or (right_bridge p part) i 0

pub part_right : (p : Profile) (part : List ℕ) → (part_refusal p part).number ≡ 0 → RightPart p part
unfolding part_refusal bridge_refusal
part_right p part e =
    let first = both_done _ _ e in
    let second = both_done _ _ first.second in
    let nowhere = holds_nowhere _ _ 12 (moved_done p.m _ second.second) in
    record {
      levelled = cells_below p.q (take (stride p) part) first.first;
      passes = cells_legal _ _ (take p.m part) second.first;
      bridged = λ i l. eqb-true _ _ (not-false _ (nowhere i (omega arith) l));
    }

pub right_done : (p : Profile) (part : List ℕ) → RightPart p part → (part_refusal p part).number ≡ 0
unfolding part_refusal bridge_refusal or_else
right_done p part r =
    let wrong : ℕ → Bool = λ i. not (eqb (get_or (bridge_in p part) i 0) (get_or (right_bridge p part) i 0)) in
    let none = none_refused wrong (length (bridge_in p part)) 13 (λ i l h. rw (eq-eqb _ _ (r.bridged i h))) in
    rw (
      below_not_refused p.q (take (stride p) part) r.levelled,
      legal_not_refused _ _ (take p.m part) r.passes,
      moved_of_done p.m _ none,
    )

right_word : (p : Profile) (part : List ℕ) → p.m ≤ length part → RightPart p part → is_word p (take p.m part) ≡ true
right_word p part long r =
    let levelled = (and-eq-true_iff (all_below p.q (take p.m part)) (all_below p.q (bridge_in p part))).0 (rw (take-add, every_append) at r.levelled) in
    rw (eq-eqb _ _ (length-take-le p.m part long), levelled.0, r.passes)

bridge_right : (p : Profile) (part : List ℕ) → stride p ≤ length part → RightPart p part → bridge_in p part ≡ right_bridge p part
unfolding bridge
bridge_right p part long r =
    ext_get_or 0 (bridge_in p part) (right_bridge p part) (simp (length-take, length-drop, length-replicate) (omega arith)) r.bridged

first_of_taken : (n : ℕ) (l : List ℕ) → 0 < n → first_cell (take n l) ≡ first_cell l
first_of_taken zero l some = absurd (omega arith)
first_of_taken (suc n) [] some = refl
first_of_taken (suc n) (c ∷ l) some = refl

three_parts : (m x : ℕ) (l : List ℕ) → take m l ++ (take x (drop m l) ++ drop (m + x) l) ≡ l
three_parts m x l = rw (← (drop-drop x m l), take-append-drop, take-append-drop)

-- Right parts from each of n words on make a stream of n words.
pub parts_make_stream : (p : Profile) → InRange p → (n : ℕ) (part : List ℕ) → length part ≡ stream_length p n → FromEach p (RightPart p) n part
    → Stream p (first_words p n part) part
unfolding first_words stream_of
parts_make_stream p range zero [] exact each = record { legal = refl; bridged = refl }
parts_make_stream p range zero (c ∷ part) exact each = absurd (omega arith)
parts_make_stream p range (suc zero) part exact each =
    record { legal = rw (right_word p part (omega arith) each.0); bridged = take_all p.m part (omega arith) }
parts_make_stream p range (suc (suc n)) part exact each =
    let step = length_step p n in
    let rest = parts_make_stream p range (suc n) (drop (stride p) part) (rw length-drop (omega arith)) each.1 in
    let first = first_of_taken p.m (drop (stride p) part) range.length.least in
    let over = bridge_right p part (omega arith) each.0 in
    record {
      legal = rw (right_word p part (omega arith) each.0) rest.legal;
      bridged = rw (rest.bridged, first, ← over) (three_parts p.m p.x part);
    }

-- A word of a profile is a legal word.
pub word_legal : (p : Profile) (w : List ℕ) → is_word p w ≡ true → LegalFor p w
word_legal p w h =
    let first = (and-eq-true_iff (has_length p.m w) (all_below p.q w && is_legal p w)).0 h in
    let second = (and-eq-true_iff (all_below p.q w) (is_legal p w)).0 first.1 in
    record { cells = eqb-true (length w) p.m first.0; levelled = second.0; passes = second.1 }

bridge_below : (p : Profile) (before after : ℕ) → InRange p → all_below p.q (bridge (patterns_of p) before after) ≡ true
unfolding bridge
bridge_below p before after range =
    let some = range.levels.least in go (eqb before (p.q - 1) && eqb after (p.q - 1)) (lt-ltb _ p.q (omega arith)) (lt-ltb _ p.q (omega arith))
  where
    go : (b : Bool) → ltb (p.q - 1) p.q ≡ true → ltb 0 p.q ≡ true → all_below p.q (replicate p.x (cond b (p.q - 1) 0)) ≡ true
    go true top bottom = every-replicate _ p.x (p.q - 1) top
    go false top bottom = every-replicate _ p.x 0 bottom

-- The last word is a right part, ..
last_right : (p : Profile) (w : List ℕ) → is_word p w ≡ true → RightPart p w
last_right p w h =
    let legal = word_legal p w h in
    let long = legal.cells in
    record {
      levelled = rw (take_all (stride p) w (omega arith)) legal.levelled;
      passes = rw (take_all p.m w (omega arith)) legal.passes;
      bridged = λ i l. absurd (omega (arith, length-take p.x (drop p.m w), length-drop p.m w));
    }

-- .. and so is a word before its bridge and the rest, behind which the rest is found.
module _ (p : Profile) (w rest : List ℕ) (cells : length w ≡ p.m) where
  abbrev bridged_to : List ℕ
  bridged_to = bridge (patterns_of p) (last_cell w) (first_cell rest)

  bridge-length : length bridged_to ≡ p.x
  unfolding bridge
  bridge-length = simp length-replicate

  word_found : take p.m (w ++ (bridged_to ++ rest)) ≡ w
  word_found = take_at w _ p.m cells

  bridge_found : bridge_in p (w ++ (bridged_to ++ rest)) ≡ bridged_to
  bridge_found = rw (drop_at w (bridged_to ++ rest) p.m cells) (take_at bridged_to rest p.x bridge-length)

  rest_found : drop (stride p) (w ++ (bridged_to ++ rest)) ≡ rest
  rest_found = rw (← (drop-drop p.x p.m (w ++ (bridged_to ++ rest))), drop_at w (bridged_to ++ rest) p.m cells) (drop_at bridged_to rest p.x bridge-length)

  word_right : InRange p → is_word p w ≡ true → RightPart p (w ++ (bridged_to ++ rest))
  word_right range h =
      let legal = word_legal p w h in
      record {
        levelled = rw (take-add, word_found, bridge_found, every_append, legal.levelled) (bridge_below p (last_cell w) (first_cell rest) range);
        passes = rw word_found legal.passes;
        bridged = λ i l. rw (bridge_found, word_found, rest_found);
      }

first_of_stream : (S : Patterns) (v : List ℕ) (words : List (List ℕ)) → 0 < length v → first_cell (stream_of S (v ∷ words)) ≡ first_cell v
unfolding stream_of
first_of_stream S [] words some = absurd (omega arith)
first_of_stream S (c ∷ v) [] some = refl
first_of_stream S (c ∷ v) (w ∷ words) some = refl

-- A word of a stream, its bridge to the rest, and the rest.
bridged_to_rest : (p : Profile) (w v : List ℕ) (words : List (List ℕ)) → InRange p → length v ≡ p.m
    → stream_of (patterns_of p) (w ∷ v ∷ words)
    ≡ w ++ (bridge (patterns_of p) (last_cell w) (first_cell (stream_of (patterns_of p) (v ∷ words))) ++ stream_of (patterns_of p) (v ∷ words))
unfolding stream_of
bridged_to_rest p w v words range cells =
    let some = range.length.least in rw (first_of_stream (patterns_of p) v words (omega arith))

first_word : (p : Profile) (n : ℕ) (part : List ℕ) → first_words p (suc n) part ≡ take p.m part ∷ first_words p n (drop (stride p) part)
unfolding first_words
first_word p n part = refl

-- The stream of these words is right from each of them on, and they are found in it again.
pub record Taken (p : Profile) (words : List (List ℕ)) : Type 0 where
  pub parts : FromEach p (RightPart p) (length words) (stream_of (patterns_of p) words)
  pub found : first_words p (length words) (stream_of (patterns_of p) words) ≡ words

pub stream_taken : (p : Profile) → InRange p → (words : List (List ℕ)) → every (is_word p) words ≡ true → Taken p words
stream_taken p range [] h = record { parts = tt; found = unfold first_words in refl }
stream_taken p range (w ∷ []) h =
    let word = rw and-true at h in
    let long = (word_legal p w word).cells in
    unfold first_words stream_of in record { parts = (last_right p w word, tt); found = rw (take_all p.m w (omega arith)) }
stream_taken p range (w ∷ v ∷ words) h =
    let first = (and-eq-true_iff (is_word p w) (every (is_word p) (v ∷ words))).0 h in
    let second = (and-eq-true_iff (is_word p v) (every (is_word p) words)).0 first.1 in
    let rest = stream_of (patterns_of p) (v ∷ words) in
    let cells = (word_legal p w first.0).cells in
    let split = bridged_to_rest p w v words range (word_legal p v second.0).cells in
    let taken = stream_taken p range (v ∷ words) first.1 in
    record {
      parts = rw (split, rest_found p w rest cells) (word_right p w rest cells range first.0, taken.parts);
      found = rw (split, first_word, word_found p w rest cells, rest_found p w rest cells, taken.found);
    }

module _ (p : Profile) (range : InRange p) where
  -- The cells of a stream are as many as its words and bridges take, ..
  pub stream_exact : (words : List (List ℕ)) (cells : List ℕ) → Stream p words cells → length cells ≡ stream_length p (length words)
  stream_exact words cells s =
      let long = every_implies (is_word p) (has_length p.m) (λ w h. eq-eqb _ _ (word_legal p w h).cells) words s.legal in
      ap length (sym s.bridged) ∙ stream-length (patterns_of p) p.m words long

  -- .. so that they tell how many words there are.
  pub stream_count : (words : List (List ℕ)) (cells : List ℕ) → Stream p words cells → words_in p (length cells) ≡ length words
  stream_count words cells s = rw (stream_exact words cells s) (words_of-length p (length words) range)

  -- The words of a stream are found again.
  pub words_found : (words : List (List ℕ)) (cells : List ℕ) → Stream p words cells → words_of p cells ≡ words
  words_found words cells s = rw (stream_count words cells s, ← s.bridged) (stream_taken p range words s.legal).found
