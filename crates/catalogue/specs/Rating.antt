-- The outcome of asking for the rate of n words.
use Rattle.std.specs.Prelude.{cond, List, ℕ, ◌*◌, ltb}
use Rattle.messages.specs.Carrying.{carrying_refusal}
use Rattle.replies.specs.declared.Reply.{Reply}
use Rattle.replies.specs.declared.Profile.{Profile}
use Rattle.replies.specs.Replies.{done, is_done, refused_if, or_else}
use Rattle.replies.specs.Ranges.{most_words}
use Rattle.profiles.specs.Profiles.{length_of, stride}
use Rattle.catalogue.specs.declared.Rated.{Rated}

-- What every call on messages tests, and then 7: n above 256.
unfoldable pub rate_refusal : Profile → List ℕ → ℕ → Reply
rate_refusal p table n = or_else (carrying_refusal p table) (refused_if (ltb most_words n) 7)

-- The rate of n words: bits n s and cells n (m + x).
unfoldable pub rating : Profile → List ℕ → ℕ → Rated
rating p table n =
    cond (is_done (rate_refusal p table n)) (record { reply = done; bits = n * length_of p; cells = n * stride p })
    (record { reply = rate_refusal p table n; bits = 0; cells = 0 })
