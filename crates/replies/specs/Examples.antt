-- Worked examples of the definitions.
use Rattle.std.specs.Prelude.{◌≡◌, refl, [], ◌∷◌, eqb}
use Rattle.replies.specs.Replies.{profile_of, done, refused, refused_at_first, or_else, moved_by, lowest, outside_refusal, profile_refusal, room_refusal, writing_counted, writing}

pub record Examples : Type 0 where
  pub least : profile_refusal (profile_of 2 1 1) ≡ done
  pub most : profile_refusal (profile_of 32 128 8) ≡ done
  pub lowest_number : profile_refusal (profile_of 33 0 9) ≡ refused 1 0
  pub no_cells : profile_refusal (profile_of 2 0 9) ≡ refused 2 0
  pub too_long : profile_refusal (profile_of 2 129 1) ≡ refused 2 0
  pub no_reach : profile_refusal (profile_of 2 1 0) ≡ refused 3 0
  pub too_far : profile_refusal (profile_of 2 1 9) ≡ refused 3 0
  pub one_short : room_refusal 5 4 ≡ refused 9 0
  pub just_enough : room_refusal 5 5 ≡ done
  pub first_place : refused_at_first (eqb 1) 4 7 ≡ refused 7 1
  pub no_place : refused_at_first (eqb 4) 4 7 ≡ done
  pub lowest_number_later : lowest (refused 15 0) (refused 14 4) ≡ refused 14 4
  pub first_place_of_one_number : lowest (refused 13 3) (refused 13 7) ≡ refused 13 3
  pub only_the_second : lowest done (refused 13 7) ≡ refused 13 7
  pub only_the_first : lowest (refused 13 3) done ≡ refused 13 3
  pub further_in : moved_by 4 (refused 13 3) ≡ refused 13 7
  pub nothing_to_move : moved_by 4 done ≡ done
  pub written : writing done (8 ∷ 9 ∷ []) (1 ∷ 2 ∷ 3 ∷ []) ≡ record { answer = record { reply = done; count = 2 }; lent = 8 ∷ 9 ∷ 3 ∷ [] }
  pub bits_counted : writing_counted done 4 (48 ∷ []) (9 ∷ 9 ∷ []) ≡ record { answer = record { reply = done; count = 4 }; lent = 48 ∷ 9 ∷ [] }
  pub not_written :
      writing (refused 9 0) (8 ∷ 9 ∷ []) (1 ∷ 2 ∷ 3 ∷ []) ≡ record { answer = record { reply = refused 9 0; count = 0 }; lent = 1 ∷ 2 ∷ 3 ∷ [] }

pub examples : Examples
unfolding refused_at_first or_else moved_by lowest outside_refusal profile_refusal room_refusal writing_counted
examples = record {
  least = refl;
  most = refl;
  lowest_number = refl;
  no_cells = refl;
  too_long = refl;
  no_reach = refl;
  too_far = refl;
  one_short = refl;
  just_enough = refl;
  first_place = refl;
  no_place = refl;
  lowest_number_later = refl;
  first_place_of_one_number = refl;
  only_the_second = refl;
  only_the_first = refl;
  further_in = refl;
  nothing_to_move = refl;
  written = refl;
  bits_counted = refl;
  not_written = refl;
}
