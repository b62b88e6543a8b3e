-- Worked examples of the outcomes.
use Rattle.std.specs.Prelude.{◌≡◌, refl, List, [], ◌∷◌, ℕ}
use Rattle.replies.specs.declared.Reply.{Reply}
use Rattle.replies.specs.Replies.{done, refused, refused_at_first, or_else, moved_by, lowest, outside_refusal, profile_refusal, room_refusal, Outcome, writing_counted, profile_of}
use Rattle.patterns.specs.Stream.{bridge, joined}
use Rattle.cells.specs.Finding.{cell_refusal, pattern_refusal}
use Rattle.streams.specs.Streams.{words_in, fit_refusal, both_fit_refusal, bridge_refusal, part_refusal, throughout, stream_refusal}
use Rattle.join_streams.specs.Joining.{join_refusal, joining_streams, turn_refusal, turning_stream}

-- Streams of q levels with words of three cells and a reach of 1.
abbrev joining : ℕ → List ℕ → List ℕ → List ℕ → Outcome
joining q a b lent = joining_streams (profile_of q 3 1) a b lent

abbrev turning : ℕ → List ℕ → List ℕ → Outcome
turning q cells lent = turning_stream (profile_of q 3 1) cells lent

abbrev answered : Reply → ℕ → List ℕ → Outcome
answered reply count lent = record { answer = record { reply = reply; count = count }; lent = lent }

pub record Joins : Type 0 where
  -- The bridge is all 0 unless a top stands on both sides of it.
  pub bridge_of_0 : joining 4 (0 ∷ 1 ∷ 3 ∷ []) (2 ∷ 1 ∷ 0 ∷ []) (9 ∷ 9 ∷ 9 ∷ 9 ∷ 9 ∷ 9 ∷ 9 ∷ 9 ∷ [])
      ≡ answered done 7 (0 ∷ 1 ∷ 3 ∷ 0 ∷ 2 ∷ 1 ∷ 0 ∷ 9 ∷ [])
  pub bridge_of_top : joining 4 (0 ∷ 1 ∷ 3 ∷ []) (3 ∷ 1 ∷ 0 ∷ []) (9 ∷ 9 ∷ 9 ∷ 9 ∷ 9 ∷ 9 ∷ 9 ∷ 9 ∷ [])
      ≡ answered done 7 (0 ∷ 1 ∷ 3 ∷ 3 ∷ 3 ∷ 1 ∷ 0 ∷ 9 ∷ [])
  pub bridge_of_0_two_levels : joining 2 (0 ∷ 0 ∷ 1 ∷ []) (0 ∷ 0 ∷ 1 ∷ []) (9 ∷ 9 ∷ 9 ∷ 9 ∷ 9 ∷ 9 ∷ 9 ∷ [])
      ≡ answered done 7 (0 ∷ 0 ∷ 1 ∷ 0 ∷ 0 ∷ 0 ∷ 1 ∷ [])
  pub bridge_of_top_two_levels : joining 2 (0 ∷ 0 ∷ 1 ∷ []) (1 ∷ 0 ∷ 0 ∷ []) (9 ∷ 9 ∷ 9 ∷ 9 ∷ 9 ∷ 9 ∷ 9 ∷ [])
      ≡ answered done 7 (0 ∷ 0 ∷ 1 ∷ 1 ∷ 1 ∷ 0 ∷ 0 ∷ [])
  pub all_top : joining 4 (3 ∷ 3 ∷ 3 ∷ []) (3 ∷ 3 ∷ 3 ∷ []) (9 ∷ 9 ∷ 9 ∷ 9 ∷ 9 ∷ 9 ∷ 9 ∷ [])
      ≡ answered done 7 (3 ∷ 3 ∷ 3 ∷ 3 ∷ 3 ∷ 3 ∷ 3 ∷ [])
  -- No bridge stands beside an empty stream.
  pub first_empty : joining 4 [] (0 ∷ 1 ∷ 3 ∷ []) (9 ∷ 9 ∷ 9 ∷ 9 ∷ []) ≡ answered done 3 (0 ∷ 1 ∷ 3 ∷ 9 ∷ [])
  pub second_empty : joining 4 (0 ∷ 1 ∷ 3 ∷ []) [] (9 ∷ 9 ∷ 9 ∷ 9 ∷ []) ≡ answered done 3 (0 ∷ 1 ∷ 3 ∷ 9 ∷ [])
  pub both_empty : joining 4 [] [] (9 ∷ []) ≡ answered done 0 (9 ∷ [])
  -- A place in the second stream counts on from the first's length.
  pub place_in_the_second : joining 4 (0 ∷ 1 ∷ 2 ∷ []) (3 ∷ 0 ∷ 3 ∷ []) (9 ∷ 9 ∷ 9 ∷ 9 ∷ 9 ∷ 9 ∷ 9 ∷ [])
      ≡ answered (refused 11 3) 0 (9 ∷ 9 ∷ 9 ∷ 9 ∷ 9 ∷ 9 ∷ 9 ∷ [])
  -- The lowest number is given, wherever it applies.
  pub ten_before_eleven : joining 4 (3 ∷ 0 ∷ 3 ∷ []) (0 ∷ 0 ∷ 4 ∷ []) (9 ∷ 9 ∷ 9 ∷ 9 ∷ 9 ∷ 9 ∷ 9 ∷ [])
      ≡ answered (refused 10 5) 0 (9 ∷ 9 ∷ 9 ∷ 9 ∷ 9 ∷ 9 ∷ 9 ∷ [])
  pub nine_before_ten : joining 4 (0 ∷ 4 ∷ 0 ∷ []) (0 ∷ 0 ∷ 0 ∷ []) (9 ∷ 9 ∷ 9 ∷ 9 ∷ 9 ∷ 9 ∷ [])
      ≡ answered (refused 9 0) 0 (9 ∷ 9 ∷ 9 ∷ 9 ∷ 9 ∷ 9 ∷ [])
  pub seven_before_nine : joining 4 (0 ∷ 1 ∷ 2 ∷ []) (0 ∷ 1 ∷ []) [] ≡ answered (refused 7 0) 0 []

pub joins : Joins
unfolding joining_streams join_refusal writing_counted or_else profile_refusal outside_refusal both_fit_refusal words_in room_refusal lowest moved_by stream_refusal
    throughout part_refusal cell_refusal pattern_refusal bridge_refusal refused_at_first joined bridge
joins = record {
  bridge_of_0 = refl;
  bridge_of_top = refl;
  bridge_of_0_two_levels = refl;
  bridge_of_top_two_levels = refl;
  all_top = refl;
  first_empty = refl;
  second_empty = refl;
  both_empty = refl;
  place_in_the_second = refl;
  ten_before_eleven = refl;
  nine_before_ten = refl;
  seven_before_nine = refl;
}

pub record Turns : Type 0 where
  pub last_first : turning 4 (0 ∷ 1 ∷ 3 ∷ 3 ∷ 3 ∷ 1 ∷ 2 ∷ []) (9 ∷ 9 ∷ 9 ∷ 9 ∷ 9 ∷ 9 ∷ 9 ∷ 9 ∷ [])
      ≡ answered done 7 (2 ∷ 1 ∷ 3 ∷ 3 ∷ 3 ∷ 1 ∷ 0 ∷ 9 ∷ [])
  pub two_levels : turning 2 (0 ∷ 0 ∷ 1 ∷ 0 ∷ 0 ∷ 1 ∷ 1 ∷ []) (9 ∷ 9 ∷ 9 ∷ 9 ∷ 9 ∷ 9 ∷ 9 ∷ [])
      ≡ answered done 7 (1 ∷ 1 ∷ 0 ∷ 0 ∷ 1 ∷ 0 ∷ 0 ∷ [])
  pub all_top_turned : turning 4 (3 ∷ 3 ∷ 3 ∷ []) (9 ∷ 9 ∷ 9 ∷ []) ≡ answered done 3 (3 ∷ 3 ∷ 3 ∷ [])
  pub empty_turned : turning 4 [] (9 ∷ []) ≡ answered done 0 (9 ∷ [])
  -- A bridge of 0 between two tops is not turned.
  pub wrong_bridge : turning 4 (0 ∷ 1 ∷ 3 ∷ 0 ∷ 3 ∷ 1 ∷ 2 ∷ []) (9 ∷ 9 ∷ 9 ∷ 9 ∷ 9 ∷ 9 ∷ 9 ∷ [])
      ≡ answered (refused 13 3) 0 (9 ∷ 9 ∷ 9 ∷ 9 ∷ 9 ∷ 9 ∷ 9 ∷ [])
  pub no_room : turning 4 (0 ∷ 4 ∷ 0 ∷ []) (9 ∷ 9 ∷ []) ≡ answered (refused 9 0) 0 (9 ∷ 9 ∷ [])

pub turns : Turns
unfolding turning_stream turn_refusal writing_counted or_else profile_refusal outside_refusal fit_refusal words_in room_refusal lowest moved_by stream_refusal
    throughout part_refusal cell_refusal pattern_refusal bridge_refusal refused_at_first bridge
turns = record {
  last_first = refl;
  two_levels = refl;
  all_top_turned = refl;
  empty_turned = refl;
  wrong_bridge = refl;
  no_room = refl;
}
