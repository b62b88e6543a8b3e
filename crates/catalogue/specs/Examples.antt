-- Worked examples of the definitions: the first and the last row, examples 8 and 12 of document 01 as rates, and which number is given.
use Rattle.std.specs.Prelude.{◌≡◌, refl, ℕ}
use Rattle.limbs.specs.Limbs.{value, limbs_of, number_at}
use Rattle.messages.specs.Carrying.{message_refusal, carrying_refusal}
use Rattle.replies.specs.declared.Reply.{Reply}
use Rattle.replies.specs.Replies.{done, refused, refused_at_first, or_else, outside_refusal, profile_refusal, profile_of}
use Rattle.patterns.specs.Pattern.{pattern_free}
use Rattle.listing.specs.Listing.{all_words, listed, count_of}
use Rattle.code.specs.Code.{legal, N}
use Rattle.code.specs.Messages.{message_length}
use Rattle.tables.specs.Tables.{table_refusal, table_of, rows_below}
use Rattle.catalogue.specs.declared.Rated.{Rated}
use Rattle.catalogue.specs.Catalogue.{row, publishing}
use Rattle.catalogue.specs.Rating.{rate_refusal, rating}

-- The rate of n words at reach 1, with the table of a reach.
abbrev asked : ℕ → ℕ → ℕ → ℕ → Rated
asked q m reach n = rating (profile_of q m 1) (table_of (profile_of q m reach)) n

abbrev answered : Reply → ℕ → ℕ → Rated
answered reply bits cells = record { reply = reply; bits = bits; cells = cells }

pub record Examples : Type 0 where
  pub first_row : publishing 0 ≡ row 4 1 14 27
  pub last_of_reach_1 : publishing 19 ≡ row 32 1 117 584
  pub last_row : publishing 39 ≡ row 32 2 108 539
  pub no_row : publishing 40 ≡ record { reply = refused 12 0; q = 0; x = 0; m = 0; s = 0 }
  pub eight : asked 2 3 1 5 ≡ answered done 10 20
  pub twelve_none : asked 3 1 1 0 ≡ answered (refused 4 0) 0 0
  pub twelve_one : asked 4 1 1 1 ≡ answered done 1 2
  pub no_words : asked 2 3 1 0 ≡ answered done 0 0
  pub most_words_lem : asked 2 3 1 256 ≡ answered done 512 1024
  pub too_many : asked 2 3 1 257 ≡ answered (refused 7 0) 0 0
  pub table_before_words : asked 2 4 2 257 ≡ answered (refused 6 4) 0 0

pub examples : Examples
unfolding publishing rating carrying_refusal rate_refusal message_refusal or_else refused_at_first profile_refusal outside_refusal table_refusal rows_below
    message_length N legal count_of listed all_words pattern_free value limbs_of number_at
examples = record {
  first_row = refl;
  last_of_reach_1 = refl;
  last_row = refl;
  no_row = refl;
  eight = refl;
  twelve_none = refl;
  twelve_one = refl;
  no_words = refl;
  most_words_lem = refl;
  too_many = refl;
  table_before_words = refl;
}
