-- Worked examples of the definitions.
use Rattle.std.specs.Prelude.{◌≡◌, refl, true, false, [], ◌∷◌}
use Rattle.replies.specs.declared.Profile.{Profile}
use Rattle.replies.specs.Replies.{profile_of}
use Rattle.patterns.specs.Pattern.{pattern_free}
use Rattle.listing.specs.Listing.{all_words, before, listed, count_of, index_in, word_of}
use Rattle.code.specs.Code.{legal, N, index, word}
use Rattle.code.specs.Messages.{message_length}
use Rattle.profiles.specs.Profiles.{is_word, count_for, word_count, index_for, word_for, length_of, stride, stream_length}

-- Two levels, words of three cells, reach 1: all words but 101.
abbrev small : Profile
small = profile_of 2 3 1

pub record Examples : Type 0 where
  pub a_word : is_word small (1 ∷ 0 ∷ 0 ∷ []) ≡ true
  pub pattern : is_word small (1 ∷ 0 ∷ 1 ∷ []) ≡ false
  pub too_high : is_word small (1 ∷ 0 ∷ 2 ∷ []) ≡ false
  pub too_long : is_word small (1 ∷ 0 ∷ 0 ∷ 0 ∷ []) ≡ false
  pub shorter_words : count_for small 2 ≡ 4
  pub words : word_count small ≡ 7
  pub tops : index_for small (1 ∷ 1 ∷ 1 ∷ []) ≡ 6
  pub fourth : word_for small 4 ≡ 1 ∷ 0 ∷ 0 ∷ []
  pub bits : length_of small ≡ 2
  pub word_to_word : stride small ≡ 4
  pub two_words : stream_length small 2 ≡ 7
  pub no_words : stream_length small 0 ≡ 0

pub examples : Examples
unfolding legal pattern_free N count_of listed all_words index index_in before word word_of message_length
examples = record {
  a_word = refl;
  pattern = refl;
  too_high = refl;
  too_long = refl;
  shorter_words = refl;
  words = refl;
  tops = refl;
  fourth = refl;
  bits = refl;
  word_to_word = refl;
  two_words = refl;
  no_words = refl;
}
