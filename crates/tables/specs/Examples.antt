-- Worked examples of the definitions: which tables are refused, and where; what building leaves.
use Rattle.std.specs.Prelude.{◌≡◌, refl, List, [], ◌∷◌, ◌++◌, ℕ, drop, set}
use Rattle.limbs.specs.Limbs.{value, limbs_of, number_at}
use Rattle.replies.specs.Replies.{done, refused, refused_at_first, or_else, outside_refusal, profile_refusal, room_refusal, writing_counted, profile_of}
use Rattle.patterns.specs.Pattern.{pattern_free}
use Rattle.listing.specs.Listing.{all_words, listed, count_of}
use Rattle.code.specs.Code.{legal, N}
use Rattle.tables.specs.Tables.{table_refusal, table_of, building, handing_out, rows_below}

abbrev row : ℕ → List ℕ
row n = n ∷ 0 ∷ 0 ∷ 0 ∷ 0 ∷ 0 ∷ 0 ∷ 0 ∷ 0 ∷ 0 ∷ []

-- The rows of q = 2 and x = 1 are 1, 2, 4, 7.
pub record Examples : Type 0 where
  pub rows : table_of (profile_of 2 3 1) ≡ row 1 ++ (row 2 ++ (row 4 ++ row 7))
  pub belongs : table_refusal (profile_of 2 3 1) (row 1 ++ (row 2 ++ (row 4 ++ row 7))) ≡ done
  pub ignored_behind : table_refusal (profile_of 2 2 1) (row 1 ++ (row 2 ++ (row 4 ++ row 9))) ≡ done
  pub one_limb_short : table_refusal (profile_of 2 3 1) (drop 1 (table_of (profile_of 2 3 1))) ≡ refused 5 0
  pub first_wrong_row : table_refusal (profile_of 2 3 1) (row 1 ++ (row 3 ++ (row 4 ++ row 8))) ≡ refused 6 1
  pub tenth_limb : table_refusal (profile_of 2 3 1) (set (table_of (profile_of 2 3 1)) 29 1) ≡ refused 6 2
  -- At q = 4 rows 0 to 3 are equal for x = 1 and x = 2.
  pub other_reach_taken : table_refusal (profile_of 4 3 1) (table_of (profile_of 4 3 2)) ≡ done
  pub other_reach_refused : table_refusal (profile_of 4 4 1) (table_of (profile_of 4 4 2)) ≡ refused 6 4
  pub built : building (profile_of 2 1 1) (row 8 ++ (row 8 ++ (9 ∷ []))) ≡ record { answer = record { reply = done; count = 20 }; lent = row 1 ++ (row 2 ++ (9 ∷ [])) }
  pub no_room : building (profile_of 2 1 1) (row 8) ≡ record { answer = record { reply = refused 9 0; count = 0 }; lent = row 8 }
  pub handed_out : handing_out 1 (row 8 ++ row 8) ≡ record { answer = record { reply = done; count = 20 }; lent = row 1 ++ row 4 }

pub examples : Examples
unfolding table_refusal rows_below building handing_out writing_counted or_else refused_at_first profile_refusal outside_refusal room_refusal
    N legal count_of listed all_words pattern_free value limbs_of number_at
examples = record {
  rows = refl;
  belongs = refl;
  ignored_behind = refl;
  one_limb_short = refl;
  first_wrong_row = refl;
  tenth_limb = refl;
  other_reach_taken = refl;
  other_reach_refused = refl;
  built = refl;
  no_room = refl;
  handed_out = refl;
}
