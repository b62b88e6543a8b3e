-- Streams of a profile: how long they are, where their words and bridges stand, and numbers 7, 10, 11 and 13.
use Rattle.std.specs.Prelude.{Bool, true, not, ◌||◌, List, [], ◌∷◌, map, reverse, ◌≡◌, ℕ, zero, suc, ◌+◌, ◌/◌, ltb, eqb, length, take, drop, get_or}
use Rattle.replies.specs.declared.Reply.{Reply}
use Rattle.replies.specs.declared.Profile.{Profile}
use Rattle.replies.specs.Replies.{done, refused_if, refused_at_first, or_else, moved_by, lowest}
use Rattle.replies.specs.Ranges.{most_words}
use Rattle.listing.specs.Every.{every}
use Rattle.patterns.specs.Stream.{bridge, first_cell, last_cell, stream_of}
use Rattle.profiles.specs.Profiles.{patterns_of, is_word, stride, stream_length}
use Rattle.cells.specs.Finding.{cell_refusal, pattern_refusal}

-- A stream: legal words with the right bridges between neighbours and none after the last.
pub record Stream (p : Profile) (words : List (List ℕ)) (cells : List ℕ) : Type 0 where
  pub legal : every (is_word p) words ≡ true
  pub bridged : stream_of (patterns_of p) words ≡ cells

-- The words of a turned stream: turned, the last first.
abbrev pub turned_words : List (List ℕ) → List (List ℕ)
turned_words words = reverse (map reverse words)

-- How many words a stream of so many cells has: a bridge behind the last word would make it m + x cells a word.
unfoldable pub words_in : Profile → ℕ → ℕ
words_in p cells = (cells + p.x) / stride p

-- No stream has so many cells.
abbrev pub fits_none : Profile → ℕ → Bool
fits_none p cells = not (eqb cells (stream_length p (words_in p cells)))

-- 7: a length that fits no stream, or over 256 words; for two streams, both together.
unfoldable pub fit_refusal : Profile → ℕ → Reply
fit_refusal p cells = refused_if (fits_none p cells || ltb most_words (words_in p cells)) 7

unfoldable pub both_fit_refusal : Profile → ℕ → ℕ → Reply
both_fit_refusal p a b = refused_if (fits_none p a || (fits_none p b || ltb most_words (words_in p a + words_in p b))) 7

-- The first n words of a stream: a word, and the rest of the stream from behind its bridge.
unfoldable pub first_words : Profile → ℕ → List ℕ → List (List ℕ)
first_words p zero part = []
first_words p (suc n) part = take p.m part ∷ first_words p n (drop (stride p) part)

abbrev pub words_of : Profile → List ℕ → List (List ℕ)
words_of p cells = first_words p (words_in p (length cells)) cells

-- A part of a stream begins with a word. Behind the word stands its bridge, unless the word is the last.
abbrev pub bridge_in : Profile → List ℕ → List ℕ
bridge_in p part = take p.x (drop p.m part)

-- The bridge that is right there: it goes by the last cell of the word before it and the first cell of the word after it.
abbrev pub right_bridge : Profile → List ℕ → List ℕ
right_bridge p part = bridge (patterns_of p) (last_cell (take p.m part)) (first_cell (drop (stride p) part))

-- 13: a wrong bridge cell, at its place.
unfoldable pub bridge_refusal : Profile → List ℕ → Reply
bridge_refusal p part =
    moved_by p.m (refused_at_first (λ i. not (eqb (get_or (bridge_in p part) i 0) (get_or (right_bridge p part) i 0))) (length (bridge_in p part)) 13)

-- 10 is sought in every cell, bridges included; 11 inside the word only; 13 in the bridge.
unfoldable pub part_refusal : Profile → List ℕ → Reply
part_refusal p part =
    or_else (cell_refusal p.q (take (stride p) part)) (or_else (pattern_refusal (patterns_of p) (take p.m part)) (bridge_refusal p part))

-- A test of the part from each of n words on, the first of them at a place: the lowest number that applies, with the first place.
unfoldable pub throughout : Profile → (List ℕ → Reply) → ℕ → ℕ → List ℕ → Reply
throughout p test zero place part = done
throughout p test (suc n) place part = lowest (moved_by place (test part)) (throughout p test n (place + stride p) (drop (stride p) part))

-- 10, 11, 13 of a whole stream.
unfoldable pub stream_refusal : Profile → List ℕ → Reply
stream_refusal p cells = throughout p (part_refusal p) (words_in p (length cells)) 0 cells
