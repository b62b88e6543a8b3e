-- Worked examples of the definitions.
use Rattle.std.specs.Prelude.{◌≡◌, refl, true, false, [], ◌∷◌}
use Rattle.replies.specs.declared.Profile.{Profile}
use Rattle.replies.specs.Replies.{done, refused, or_else, outside_refusal, profile_refusal, profile_of}
use Rattle.replies.specs.Ranges.{most_cells}
use Rattle.text.specs.Text.{bytes, decimal}
use Rattle.outcomes.specs.Outcomes.{placed_text, words_text, reply_text, cells_around, nowhere, spot_of}

pub record Told : Type 0 where
  pub with_place : reply_text (refused 11 345) ≡ bytes "refused 11 at 345: forbidden pattern (top at 345)"
  pub without_place : reply_text (refused 9 0) ≡ bytes "refused 9 at 0: lent output too short"
  pub no_such_number : reply_text (refused 17 5) ≡ bytes "refused 17 at 5: number that has no meaning"
  pub no_refusal : reply_text done ≡ bytes "done"
  pub one_cell : cells_around (3 ∷ []) 0 ≡ bytes " [3]"
  pub all_cells : cells_around (0 ∷ 31 ∷ 2 ∷ []) 1 ≡ bytes " 0 [31] 2"
  pub eight_before : cells_around (9 ∷ 8 ∷ 7 ∷ 6 ∷ 5 ∷ 4 ∷ 3 ∷ 2 ∷ 1 ∷ 0 ∷ []) 9 ≡ bytes " 8 7 6 5 4 3 2 1 [0]"
  pub eight_behind : cells_around (9 ∷ 8 ∷ 7 ∷ 6 ∷ 5 ∷ 4 ∷ 3 ∷ 2 ∷ 1 ∷ 0 ∷ []) 0 ≡ bytes " [9] 8 7 6 5 4 3 2 1"
  pub past_all : cells_around (3 ∷ []) 9 ≡ []

pub told : Told
unfolding decimal placed_text words_text reply_text cells_around
told = record {
  with_place = refl;
  without_place = refl;
  no_such_number = refl;
  no_refusal = refl;
  one_cell = refl;
  all_cells = refl;
  eight_before = refl;
  eight_behind = refl;
  past_all = refl;
}

-- Words of 3 cells with bridges of 2 between them.
abbrev three_and_two : Profile
three_and_two = profile_of 4 3 2

pub record Spots : Type 0 where
  pub in_word : spot_of three_and_two 6 ≡ record { in_bridge = false; word = 1; cell = 1; first = 5; last = 7 }
  pub in_bridge : spot_of three_and_two 9 ≡ record { in_bridge = true; word = 1; cell = 1; first = 8; last = 9 }
  pub past_all_streams : spot_of three_and_two most_cells ≡ nowhere
  pub out_of_range : spot_of (profile_of 4 0 2) 6 ≡ nowhere

pub spots : Spots
unfolding spot_of profile_refusal or_else outside_refusal
spots = record { in_word = refl; in_bridge = refl; past_all_streams = refl; out_of_range = refl }
